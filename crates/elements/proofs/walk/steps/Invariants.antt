-- `steps` makes a step a turn: the invariant says that what is left of the walk from where it is gives the answer of the whole.
-- Each step is the definition's, by the rows of table and index.
use Rattle.by_index.specs.ByIndex.{rows_by}
use Rattle.elements.proofs.Stepping.{Stepping}
use Rattle.elements.proofs.walk.steps.Given as goal

abbrev pub invariant-loop : goal.invariant-loop
invariant-loop l = Stepping (rows_by l.table l.index) l.tlve_start l.option l.part l.initial.state l.most l.counter (record { state = l.state; placed = l.last; needs = l.t })
