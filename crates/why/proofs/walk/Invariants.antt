-- `walk` passes an element a turn: the invariant says what was met, which starts are entered, and what is told of the element so far.
-- The measure is what is left of the part.
use Prim.Native.Nat.{◌-◌}
use lib.ListN.{length}
use Rattle.rows.specs.Indexed.{Indexed}
use Rattle.why.proofs.Walking.{Walking}
use Rattle.why.proofs.walk.Given as goal

abbrev pub invariant-loop-e : goal.invariant-loop-e
invariant-loop-e l =
    (i : Indexed l.table l.index) → Walking l.table l.index i l.tlve_start l.option l.octets l.number l.state l.starts l.why l.count

abbrev pub decreases-loop-e : goal.decreases-loop-e
decreases-loop-e l =
    length l.octets - l.state.at
