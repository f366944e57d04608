use Rattle.std.proofs.Common.{length, ◌-◌, ◌≤◌}
use Rattle.recorded.proofs.read_list.Given as goal

abbrev pub invariant-loop-len : goal.invariant-loop-len
invariant-loop-len g l = l.len ≤ length l.list

abbrev pub decreases-loop-len : goal.decreases-loop-len
decreases-loop-len g l = length l.list - l.len
