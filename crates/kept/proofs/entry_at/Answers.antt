-- `entry_at` is the count at the front with its element behind it.
-- The comparison with what is left is the definition's.
use native.Mathlib.Omega.{arith}
use mathlib.Core.Path.{sym, ◌∙◌}
use Rattle.kept.proofs.Counts.{entry_past, entry-judged, entry-not}
use Rattle.kept.proofs.entry_at.Goals as goal

pub returns-in_err-count : goal.returns-in_err-count
returns-in_err-count c = c.from_residual.ensures ∙ entry-not c.args.s.now (sym c.in_err-count.was ∙ c.count_at.ensures)

pub returns-in_err-left : goal.returns-in_err-left
returns-in_err-left c = let n = c.in_err-left.ensures in c.from_residual-in_err-left.ensures ∙ entry_past c.args.s.now (sym c.in_ok-count.was ∙ c.count_at.ensures) (omega arith)

pub returns : goal.returns
returns c = let l = c.in_ok-left.ensures in c.then_some.ensures ∙ entry-judged c.args.s.now (sym c.in_ok-count.was ∙ c.count_at.ensures) _ (omega arith)
