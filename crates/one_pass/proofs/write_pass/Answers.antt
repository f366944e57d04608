-- `write_pass` goes over the places alone where there are no logs, and else over the logs, into the array that `is_few` chooses.
-- With a kept log that is too long it writes nothing.
use native.Mathlib.Omega.{arith}
use mathlib.Core.Path.{sym, ◌∙◌}
use borrow.Author.Tests.{eqb-true}
use lib.ListN.{length}
use Rattle.definitions.specs.Rows.{rows_of}
use Rattle.placing.specs.Pieces.{lent_of}
use Rattle.placing.proofs.Copies.{of-few, of-many}
use Rattle.one_pass.proofs.Outputs.{without-logs, short-enough, not_short}
use Rattle.one_pass.proofs.write_pass.Goals as goal

pub returns-then-is_empty-2 : goal.returns-then-is_empty-2
returns-then-is_empty-2 c = let a = c.args in without-logs (lent_of a.table.now a.rows.now a.received.now a.set.now) a.index.now a.order.now a.kept.now (eqb-true _ _ (sym c.is_empty.ensures ∙ c.if-is_empty.true)) (eqb-true _ _ (sym c.is_empty-then-is_empty.ensures ∙ c.if-is_empty-2.true)) c.write_plain.ensures

pub returns-then-kept-gt-MOST_SHORT : goal.returns-then-kept-gt-MOST_SHORT
returns-then-kept-gt-MOST_SHORT c = let a = c.args in not_short (lent_of a.table.now a.rows.now a.received.now a.set.now) a.index.now a.order.now a.kept.now c.if-kept-gt-MOST_SHORT.true

pub returns-then-is_few : goal.returns-then-is_few
returns-then-is_few c = let a = c.args in rw (of-few (length (rows_of a.table.now)) (length a.kept.now) (rw c.places.ensures at (sym c.is_few.ensures ∙ c.if-is_few.true))) (rw (short-enough (lent_of a.table.now a.rows.now a.received.now a.set.now) a.index.now a.order.now a.kept.now (omega (arith, c.if-kept-gt-MOST_SHORT.false))) at c.pass_in.ensures)

pub returns : goal.returns
returns c = let a = c.args in rw (of-many (length (rows_of a.table.now)) (length a.kept.now) (rw c.places.ensures at (sym c.is_few.ensures ∙ c.if-is_few.false))) (rw (short-enough (lent_of a.table.now a.rows.now a.received.now a.set.now) a.index.now a.order.now a.kept.now (omega (arith, c.if-kept-gt-MOST_SHORT.false))) at c.pass_in-2.ensures)
