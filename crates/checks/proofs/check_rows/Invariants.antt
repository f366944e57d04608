-- `check_rows` takes a whole row a turn: what is left to check and to enter from here on gives what the whole table does.
-- A row behind the whole ones is unfinished.
use Rattle.definitions.specs.Rows.{rows_of}
use Rattle.checks.proofs.Steps.{Checking}
use Rattle.checks.proofs.check_rows.Given as goal

abbrev pub invariant-loop-k : goal.invariant-loop-k
invariant-loop-k l = Checking (rows_of l.table) l.initial.index l.k l.index
