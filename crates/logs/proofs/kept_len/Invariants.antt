-- `kept_len` passes an entry a turn, and those of the same length behind it: the invariant says that the octets so far with those left are those of
-- the whole log. The measure is what is left of the log.
use Prim.Native.Nat.{◌-◌}
use lib.ListN.{length}
use Rattle.logs.specs.Walks.{Keeping}
use Rattle.logs.proofs.kept_len.Given as goal

abbrev pub invariant-loop-along : goal.invariant-loop-along
invariant-loop-along l = Keeping l.kept l.along.at l.along.octets

abbrev pub decreases-loop-along : goal.decreases-loop-along
decreases-loop-along l = length l.kept - l.along.at
