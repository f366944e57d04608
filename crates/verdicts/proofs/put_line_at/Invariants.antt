-- `put_line_at` looks for the element: what is left of the part has the line that the whole part has.
-- The measure is what is left of the part; a part that is read whole is never cut short.
use Prim.Native.Nat.{◌-◌}
use mathlib.Core.Path.{◌≡◌}
use lib.ListN.{length}
use Rattle.verdicts.proofs.Finding.{Looking}
use Rattle.verdicts.proofs.put_line_at.Given as goal

abbrev pub invariant-loop-e : goal.invariant-loop-e
invariant-loop-e l = Looking l.table l.octets l.at l.state × (l.out ≡ l.initial.out)

abbrev pub decreases-loop-e : goal.decreases-loop-e
decreases-loop-e l = length l.octets - l.state.at
