-- `write_plain` takes the shorter array for few places.
-- Each answer is that of the array which was taken.
use mathlib.Core.Path.{sym, ◌∙◌}
use lib.ListN.{length}
use Rattle.definitions.specs.Rows.{rows_of}
use Rattle.placing.proofs.Copies.{of-few, of-many}
use Rattle.plain_writing.proofs.write_plain.Goals as goal

pub returns-then-is_few : goal.returns-then-is_few
returns-then-is_few c = rw (of-few (length (rows_of c.args.table.now)) 0 (rw c.places.ensures at (sym c.is_few.ensures ∙ c.if-is_few.true))) c.plain_in.ensures

pub returns : goal.returns
returns c = rw (of-many (length (rows_of c.args.table.now)) 0 (rw c.places.ensures at (sym c.is_few.ensures ∙ c.if-is_few.false))) c.plain_in-2.ensures
