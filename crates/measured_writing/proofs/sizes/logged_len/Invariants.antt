-- `logged_len` passes a run of entries of no known element, or an entry, a turn: the invariant says that the tally with the entries left is that of the whole log, if it is one.
-- The measure is what is left of the log.
use Prim.Native.Nat.{◌-◌}
use lib.ListN.{length}
use Rattle.measured_writing.specs.Added.{filled_of}
use Rattle.measured_writing.specs.Sizes.{tally_of}
use Rattle.measured_writing.proofs.Tallying.{Walking}
use Rattle.measured_writing.proofs.sizes.logged_len.Given as goal

abbrev pub invariant-loop-at : goal.invariant-loop-at
invariant-loop-at l = Walking (filled_of l.table l.rows l.received l.set) l.order l.at (tally_of l.t) l.t.apart

abbrev pub decreases-loop-at : goal.decreases-loop-at
decreases-loop-at l = length l.order - l.at
