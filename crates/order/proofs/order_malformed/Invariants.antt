-- `order_malformed` passes an entry a turn: the invariant says that what is left decides.
-- The measure is what is left of the log.
use Prim.Native.Nat.{◌-◌}
use lib.ListN.{length}
use Rattle.definitions.specs.Basic.{is_none}
use Rattle.definitions.specs.Logs.{order_list}
use Rattle.definitions.proofs.LogWalks.{Left}
use Rattle.order.proofs.order_malformed.Given as goal

abbrev pub invariant-loop-at : goal.invariant-loop-at
invariant-loop-at l = Left order_list l.order (is_none (order_list l.order)) l.at is_none

abbrev pub decreases-loop-at : goal.decreases-loop-at
decreases-loop-at l = length l.order - l.at
