-- `count_findings` passes an entry a turn: the invariant says that those counted and those that are left are all.
-- The measure is what is left of the order log.
use Prim.Native.Nat.{◌-◌}
use lib.ListN.{length}
use Rattle.findings.proofs.Walked.{Counting}
use Rattle.findings.proofs.walk.count_findings.Given as goal

abbrev pub invariant-loop-w : goal.invariant-loop-w
invariant-loop-w l = Counting l.index l.order l.kept l.w l.n

abbrev pub decreases-loop-w : goal.decreases-loop-w
decreases-loop-w l = length l.order - l.w.order
