-- `fill_elements` enters an element a turn: the invariant says that what is left to enter gives what the whole part gives.
-- The measure is what is left of the part.
use Prim.Native.Nat.{◌*◌, ◌-◌}
use lib.ListN.{length}
use Rattle.definitions.specs.Rows.{rows_of}
use Rattle.by_index.specs.ByIndex.{rows_by}
use Rattle.filling.proofs.Filling.{Filling}
use Rattle.filling.proofs.fill.fill_elements.Given as goal

abbrev pub invariant-loop-state : goal.invariant-loop-state
invariant-loop-state l =
    Filling (rows_by l.table l.index) (4 * length (rows_of l.table)) l.tlve_start l.option l.octets l.initial.rows l.initial.kept l.initial.order l.state l.used.kept l.used.order l.rows l.kept l.order

abbrev pub decreases-loop-state : goal.decreases-loop-state
decreases-loop-state l = length l.octets - l.state.at
