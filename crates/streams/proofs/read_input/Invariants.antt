-- A read takes no more than the room that is left, which is the measure.
use Rattle.std.proofs.Common.{length, ◌-◌, ◌≤◌}
use Rattle.streams.proofs.read_input.Given as goal

abbrev pub invariant-loop-len : goal.invariant-loop-len
invariant-loop-len l = l.len ≤ length l.part

abbrev pub decreases-loop-len : goal.decreases-loop-len
decreases-loop-len l = length l.part - l.len
