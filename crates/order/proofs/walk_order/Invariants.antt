-- `walk_order` takes a step a turn: the invariant says that what is told from here on is what is told of the whole log.
-- The measure is what is left of the log; each entry takes an octet or more.
use Prim.Native.Nat.{◌-◌}
use lib.ListN.{length}
use Rattle.order.proofs.OrderWalks.{WalkAt}
use Rattle.order.proofs.walk_order.Given as goal

abbrev pub invariant-loop-w : goal.invariant-loop-w
invariant-loop-w l = WalkAt l.content l.want l.w

abbrev pub decreases-loop-w : goal.decreases-loop-w
decreases-loop-w l = length l.content - l.w.at
