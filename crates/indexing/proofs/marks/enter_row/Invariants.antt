-- `enter_row` enters an IEI a turn: those left, entered from here on, give what the whole row does.
-- The IEIs that were good so far were free too.
use Rattle.definitions.specs.Rows.{rows_of, row_at, ieis}
use Rattle.indexing.proofs.Steps.{Entering}
use Rattle.indexing.proofs.marks.enter_row.Given as goal

abbrev pub invariant-loop-j : goal.invariant-loop-j
invariant-loop-j l = Entering l.half l.mark (ieis (row_at (rows_of l.table) l.place)) l.initial.index l.j l.index l.good
