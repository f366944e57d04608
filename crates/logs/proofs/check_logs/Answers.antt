-- `check_logs` asks the order log first.
-- Of one that is well formed the kept log decides.
use mathlib.Core.Path.{sym, ◌∙◌}
use Rattle.definitions.specs.Logs.{order_list, kept_list}
use Rattle.logs.proofs.Formed.{first-bad, by-kept}
use Rattle.logs.proofs.check_logs.Goals as goal

pub returns-then-order_malformed : goal.returns-then-order_malformed
returns-then-order_malformed c = first-bad (order_list c.args.order.now) (kept_list c.args.kept.now) (sym c.order_malformed.ensures ∙ c.if-order_malformed.true)

pub returns : goal.returns
returns c = c.ok_or.ensures.value ∙ by-kept (order_list c.args.order.now) (kept_list c.args.kept.now) (sym c.order_malformed.ensures ∙ c.if-order_malformed.false) c.kept_len.ensures
