-- `put_lines` puts a line a turn: the lines of what is left, put now, give what all lines give from the start.
-- The measure is what is left of the part; a part that is read whole is never cut short.
use Prim.Native.Nat.{◌-◌}
use lib.ListN.{length}
use Rattle.listing.proofs.Reading.{Writing}
use Rattle.listing.proofs.put_lines.Given as goal

abbrev pub invariant-loop-e : goal.invariant-loop-e
invariant-loop-e l = Writing l.table l.option l.octets l.initial.out l.first l.state l.out l.used

abbrev pub decreases-loop-e : goal.decreases-loop-e
decreases-loop-e l = length l.octets - l.state.at
