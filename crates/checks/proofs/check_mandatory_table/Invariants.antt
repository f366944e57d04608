-- `check_mandatory_table` takes a row a turn: what is left to check from here on gives what the whole table does.
-- The code of the row before says whether a high half has to come.
use Rattle.definitions.specs.Mandatory.{mandatory_rows_of}
use Rattle.checks.proofs.Steps.{Pairing}
use Rattle.checks.proofs.check_mandatory_table.Given as goal

abbrev pub invariant-loop-k : goal.invariant-loop-k
invariant-loop-k l = Pairing (mandatory_rows_of l.table) l.k l.after
