-- `judge` takes a row a turn: what is judged from here on gives what the whole table does.
-- The invariant says so of the rows from the loop's place on.
use Rattle.definitions.specs.Mandatory.{mandatory_rows_of}
use Rattle.mandatory.proofs.Judging.{Judging}
use Rattle.mandatory.proofs.decode.judge.Given as goal

abbrev pub invariant-loop-row : goal.invariant-loop-row
invariant-loop-row l = Judging l.lenient (mandatory_rows_of l.table) l.part l.row l.at l.notes
