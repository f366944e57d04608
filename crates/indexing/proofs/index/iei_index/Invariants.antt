-- `iei_index` enters a row a turn: the rows left, entered from here on, give the index of the whole table.
-- The entries stay 256.
use Rattle.definitions.specs.Rows.{rows_of, index}
use Rattle.indexing.proofs.Steps.{Filling}
use Rattle.indexing.proofs.index.iei_index.Given as goal

abbrev pub invariant-loop-k : goal.invariant-loop-k
invariant-loop-k l = Filling (rows_of l.table) (index (rows_of l.table)) 256 l.k l.entries
