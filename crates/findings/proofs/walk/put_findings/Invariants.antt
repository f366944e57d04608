-- `put_findings` writes an entry's finding a turn: the invariant says that those that are left, written from here on, give the whole.
-- The measure is what is left of the order log.
use Prim.Native.Nat.{◌-◌}
use lib.ListN.{length}
use Rattle.findings.proofs.Walked.{Putting}
use Rattle.findings.proofs.walk.put_findings.Given as goal

abbrev pub invariant-loop-w : goal.invariant-loop-w
invariant-loop-w l = Putting l.index l.order l.kept l.initial.findings l.w l.n l.findings

abbrev pub decreases-loop-w : goal.decreases-loop-w
decreases-loop-w l = length l.order - l.w.order
