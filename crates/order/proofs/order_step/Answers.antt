-- `order_step` passes the entry at the front of what is left.
-- The entry is the definition's, and lies within what is left, so no sum wraps.
use Prim.Native.Nat.{ℕ, ◌+◌}
use mathlib.Core.Path.{◌≡◌, refl, ap, sym}
use mathlib.Core.Option.{some}
use native.Mathlib.Omega.{arith}
use borrow.Author.Tests.{eq-eqb, ne_eqb}
use lib.ListN.{drop}
use Rattle.definitions.proofs.Orders.{order_front}
use Rattle.definitions.proofs.Lists.{to_end}
use Rattle.definitions.proofs.LogSteps.{order-split}
use Rattle.order.specs.Order.{placed_as}
use Rattle.order.proofs.order_step.Goals as goal
use Rattle.order.proofs.order_step.Goals.{then-w-want, else-w-want}

pub overflow_add-result : goal.overflow_add-result
overflow_add-result c =
    let f : order_front (drop c.args.w.at c.args.content.now) ≡ some (placed_as c.in_ok-entry.entry) = sym (rw (c.in_ok-entry.was, to_end) at c.front_at.ensures) in
    omega (arith, c.entry_len.ensures, (order-split _ _ c.requires.0 f).within)

pub returns-in_err-entry : goal.returns-in_err-entry
returns-in_err-entry c = rw (c.from_residual.ensures, ← (rw (c.in_err-entry.was, to_end) at c.front_at.ensures)) tt

pub returns : goal.returns
returns c =
    let w = c.args.w in
    let f : order_front (drop w.at c.args.content.now) ≡ some (placed_as c.in_ok-entry.entry) = sym (rw (c.in_ok-entry.was, to_end) at c.front_at.ensures) in
    let a = ap (λ (n : ℕ). w.at + n) c.entry_len.ensures in
    rw f (elim c.if-w-want.branch [
      | then-w-want v ↦ record { at = a; count = refl; wanted = rw (v.wanted-is, eq-eqb w.count c.args.want v.if-w-want.true) }
      | else-w-want v ↦ record { at = a; count = refl; wanted = rw (v.wanted-is, ne_eqb w.count c.args.want v.if-w-want.false) }
    ])
