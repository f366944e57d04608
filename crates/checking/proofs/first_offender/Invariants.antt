-- `first_offender` takes an element a turn, as long as each is in its turn and not too long: the invariant says that what is left gives
-- the answer of the whole part, whatever the start number. The measure is what is left of the part.
use Prim.Native.Nat.{ℕ, ◌-◌}
use lib.ListN.{length}
use Rattle.checking.proofs.Walking.{Turn}
use Rattle.checking.proofs.first_offender.Given as goal

abbrev pub invariant-loop-at : goal.invariant-loop-at
invariant-loop-at l = (start : ℕ) → Turn l.table start l.part l.at l.least

abbrev pub decreases-loop-at : goal.decreases-loop-at
decreases-loop-at l = length l.part - l.at
