-- `order_malformed` passes an entry a turn: the invariant says that what is left decides.
-- The measure is what is left of the log.
use native.Mathlib.Omega.{arith}
use mathlib.Core.Path.{◌≡◌, refl, ap, sym, ◌∙◌}
use mathlib.Core.Option.{none}
use lib.ListN.{drop}
use Rattle.definitions.specs.Basic.{is_none}
use Rattle.definitions.specs.Logs.{order_list}
use Rattle.definitions.proofs.Orders.{order_front, order-nil}
use Rattle.definitions.proofs.Lists.{to_end}
use Rattle.definitions.proofs.LogSteps.{OrderEntry, order-split, order-stop}
use Rattle.definitions.proofs.LogWalks.{left-begin, left_step, left-stop, left_end}
use Rattle.order.specs.Order.{placed_as, front_as}
use Rattle.order.proofs.OrderWalks.{none-put}
use Rattle.order.proofs.order_malformed.Goals as goal
use Rattle.order.proofs.order_malformed.Goals.{In-Some}

pub loop-at-init : goal.loop-at-init
loop-at-init c = left-begin order_list _ _ refl

-- the entry at the position
split : (c : In-Some) → OrderEntry c.args.order.now c.loop-at.at c.loop-at-test.true (placed_as c.in-Some.entry)
split c = order-split _ _ c.loop-at-test.true (sym (ap front_as (sym c.in-Some.is) ∙ rw to_end at c.front_at.ensures))

pub overflow_add-at : goal.overflow_add-at
overflow_add-at c = omega (arith, c.entry_len-at.ensures, (split (goal.at.overflow_add-at c).In-Some).within)

pub loop-at-smaller : goal.loop-at-smaller
loop-at-smaller c = omega (arith, c.entry_len-at.ensures, (split (goal.at.loop-at-smaller c).In-Some).octet, (split (goal.at.loop-at-smaller c).In-Some).within)

pub loop-at-preserved : goal.loop-at-preserved
loop-at-preserved c = rw c.entry_len-at.ensures (left_step order_list _ _ c.loop-at.invariant _ (split (goal.at.loop-at-preserved c).In-Some).within (split (goal.at.loop-at-preserved c).In-Some).splits (none-put _))

pub returns-in_default : goal.returns-in_default
unfolding is_none
returns-in_default c =
    let e : order_front (drop c.loop-at.at c.args.order.now) ≡ none = sym (ap front_as (sym c.in_default.is) ∙ rw to_end at c.front_at.ensures) in
    left-stop order_list _ _ c.loop-at.invariant (order-stop _ _ c.loop-at-test.true e)

pub returns : goal.returns
unfolding is_none
returns c = left_end order_list _ _ c.loop-at.invariant order-nil c.loop-at-test.false
