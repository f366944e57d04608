-- `fill` writes a row a turn: what is left to write from here on gives what the whole table leaves.
-- The invariant says so of the rows from the loop's place on.
use Rattle.definitions.specs.Mandatory.{mandatory_rows_of}
use Rattle.mandatory.proofs.Filling.{Filling}
use Rattle.mandatory.proofs.decode.fill.Given as goal

abbrev pub invariant-loop-row : goal.invariant-loop-row
invariant-loop-row l = Filling (mandatory_rows_of l.table) l.part l.initial.rows l.row l.at l.rows
