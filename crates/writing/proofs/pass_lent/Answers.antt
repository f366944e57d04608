-- `pass_lent` tries the pass by a table that passes its check, which has its index.
-- What the pass writes is what writing does; else the output is as it was.
use mathlib.Core.Path.{◌≡◌, ap, sym, ◌∙◌}
use mathlib.Core.Option.{none}
use lib.ListN.{length}
use Rattle.definitions.specs.Rows.{rows_of, first_bad}
use Rattle.definitions.proofs.TableLaws.{index-length}
use Rattle.checks.specs.Answers.{checked_as}
use Rattle.checks.proofs.Laws.{passed-index}
use Rattle.writing.proofs.Passing.{nothing, short-done, check-passed}
use Rattle.writing.proofs.pass_lent.Goals as goal

pub returns-then-received-gt-MOST_PASSED : goal.returns-then-received-gt-MOST_PASSED
returns-then-received-gt-MOST_PASSED c = nothing

pub returns-in_err-ok : goal.returns-in_err-ok
returns-in_err-ok c = rw c.from_residual.ensures nothing

pub returns : goal.returns
returns c =
    let a = c.args in
    let p : first_bad (rows_of a.table.now) ≡ none = sym c.check_and_index.ensures.0 ∙ check-passed c.check_and_index.result c.in_ok-ok.ensures.value in
    short-done a.table.now _ a.rows.now a.received.now a.set.now a.set_used a.kept.now a.kept_used a.order.now a.order_used a.output.now p
    (passed-index (rows_of a.table.now) _ p c.check_and_index.ensures.1) c.write_short.ensures
