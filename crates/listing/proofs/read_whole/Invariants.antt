-- `read_whole` passes an element a turn: what is left is cut short exactly where the part is.
-- The measure is what is left of the part.
use Prim.Native.Nat.{◌-◌}
use lib.ListN.{length}
use Rattle.listing.proofs.Reading.{Seeking}
use Rattle.listing.proofs.read_whole.Given as goal

abbrev pub invariant-loop-next : goal.invariant-loop-next
invariant-loop-next l = Seeking l.table l.option l.octets l.state

abbrev pub decreases-loop-next : goal.decreases-loop-next
decreases-loop-next l = length l.octets - l.state.at
