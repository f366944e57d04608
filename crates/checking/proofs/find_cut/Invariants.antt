-- `find_cut` passes over elements by their lengths alone: the invariant says that what is left is cut where the whole rest is.
-- The measure is what is left of the part.
use Prim.Native.Nat.{◌-◌}
use mathlib.Core.Path.{◌≡◌}
use lib.ListN.{length}
use Rattle.definitions.specs.Rows.{rows_of}
use Rattle.checking.specs.Checks.{cut_from}
use Rattle.checking.proofs.find_cut.Given as goal

abbrev pub invariant-loop-at : goal.invariant-loop-at
invariant-loop-at l = cut_from (rows_of l.table) l.tlve_start l.at l.part ≡ cut_from (rows_of l.table) l.tlve_start l.from l.part

abbrev pub decreases-loop-at : goal.decreases-loop-at
decreases-loop-at l = length l.part - l.at
