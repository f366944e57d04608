-- `judge` walks the log, then judges the places that it does not name.
-- What the walk found decides, or else what is left.
use mathlib.Core.Path.{◌≡◌, sym, ◌∙◌}
use Rattle.definitions.specs.Rows.{rows_of}
use Rattle.definitions.specs.Logs.{order_list, or_empty}
use Rattle.definitions.specs.Values.{apart}
use Rattle.seen.specs.Seen.{set_of}
use Rattle.agreement.proofs.Agreeing.{found-apart, all_apart}
use Rattle.edits.proofs.Logged.{its_own}
use Rattle.edits.proofs.log.judge.Goals as goal

pub walk_log-a-requires : goal.walk_log-a-requires
walk_log-a-requires c = c.requires

pub returns-then-a : goal.returns-then-a
returns-then-a c = found-apart (rows_of c.args.table.now) c.args.rows.now (or_empty (order_list c.args.order.now)) (set_of c.walk_log-a.result.seen) (rw c.if-a.true at c.walk_log-a.ensures.rows_agree)

pub rest_apart-requires : goal.rest_apart-requires
rest_apart-requires c = c.requires.0.passes

pub returns-then-rest_apart : goal.returns-then-rest_apart
returns-then-rest_apart c =
    let rest : c.rest_apart.result ≡ apart (rows_of c.args.table.now) (or_empty (order_list c.args.order.now)) c.args.rows.now = c.rest_apart.ensures ∙ all_apart (rows_of c.args.table.now) c.args.rows.now (or_empty (order_list c.args.order.now)) (set_of c.walk_log-a.result.seen) (rw c.if-a.false at c.walk_log-a.ensures.rows_agree) in
    sym (rest) ∙ c.if-rest_apart.true

pub returns : goal.returns
returns c =
    let rest : c.rest_apart.result ≡ apart (rows_of c.args.table.now) (or_empty (order_list c.args.order.now)) c.args.rows.now = c.rest_apart.ensures ∙ all_apart (rows_of c.args.table.now) c.args.rows.now (or_empty (order_list c.args.order.now)) (set_of c.walk_log-a.result.seen) (rw c.if-a.false at c.walk_log-a.ensures.rows_agree) in
    (sym (rest) ∙ c.if-rest_apart.false, its_own (rows_of c.args.table.now) c.args.rows.now c.args.want c.args.order.now c.walk_log-a.result c.walk_log-a.ensures)
