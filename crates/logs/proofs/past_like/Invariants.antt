-- `past_like` passes an entry a turn, as `kept_len` does, whose length is known before its count is read.
-- The measure is what is left of the log.
use Prim.Native.Nat.{◌-◌, ◌≤◌}
use lib.ListN.{length}
use Rattle.logs.specs.Walks.{Keeping}
use Rattle.logs.proofs.past_like.Given as goal

abbrev pub invariant-loop-along : goal.invariant-loop-along
invariant-loop-along l = Keeping l.kept l.along.at l.along.octets × (l.initial.along.at ≤ l.along.at)

abbrev pub decreases-loop-along : goal.decreases-loop-along
decreases-loop-along l = length l.kept - l.along.at
