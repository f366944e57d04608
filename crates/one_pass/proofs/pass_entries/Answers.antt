-- `pass_entries` passes an entry a turn: what is left of both logs leads to the whole message.
-- The measure is what is left of the order log.
use Prim.Native.Nat.{◌+◌}
use native.Mathlib.Omega.{arith}
use mathlib.Core.Path.{◌≡◌, ap, sym, ◌∙◌}
use mathlib.Core.Option.{none, some}
use lib.ListN.{length, drop, length-drop}
use Rattle.definitions.specs.Logs.{order_entry, order_list}
use Rattle.definitions.proofs.Orders.{order_front, order-nil}
use Rattle.definitions.proofs.Lists.{to_end}
use Rattle.definitions.proofs.LogSteps.{OrderEntry, order-split, order-stop}
use Rattle.order.specs.Order.{placed_as, front_as}
use Rattle.seen.specs.Seen.{set_of}
use Rattle.placing.specs.Pieces.{lent_of}
use Rattle.one_pass.proofs.Turns.{passing-begun, passing-on, passing-not, passing-stopped, passing-as}
use Rattle.std.proofs.Common.{rules}
use Rattle.one_pass.proofs.pass_entries.Goals as goal
use Rattle.one_pass.proofs.pass_entries.Goals.{In_ok-entry}

pub loop-from-init : goal.loop-from-init
loop-from-init c = let a = c.args in passing-begun (lent_of a.table.now a.rows.now a.received.now a.set.now) a.index.now (set_of a.names) a.order.now a.kept.now a.out.now

pub pass_entry-requires : goal.pass_entry-requires
pass_entry-requires c = (omega (arith, c.loop-from.invariant.room, c.loop-from.invariant.long), c.loop-from.invariant.inside)

front : (c : In_ok-entry) → order_front (drop c.loop-from.from c.args.order.now) ≡ some (placed_as c.in_ok-entry.entry)
front c = sym (ap front_as (sym c.in_ok-entry.was) ∙ rw to_end at c.front_at.ensures)

-- the entry at the front of what is left
split : (c : In_ok-entry) → OrderEntry c.args.order.now c.loop-from.from c.loop-from-test.true (placed_as c.in_ok-entry.entry)
split c = order-split c.args.order.now c.loop-from.from c.loop-from-test.true (front c)

pub overflow_add-from : goal.overflow_add-from
overflow_add-from c =
    let t = split (goal.at.overflow_add-from c).In_ok-entry in
    omega (arith, c.entry_len-from.ensures, t.within, c.well_formed)

pub loop-from-smaller : goal.loop-from-smaller
loop-from-smaller c =
    let t = split (goal.at.loop-from-smaller c).In_ok-entry in
    omega (arith, c.entry_len-from.ensures, t.octet, t.within)

pub loop-from-preserved : goal.loop-from-preserved
loop-from-preserved c =
    let t = split (goal.at.loop-from-preserved c).In_ok-entry in
    let a = c.args in
    let e = placed_as c.in_ok-entry.entry in
    rw c.entry_len-from.ensures
    (passing-on (lent_of a.table.now a.rows.now a.received.now a.set.now) a.index.now (set_of a.names) a.order.now a.kept.now a.out.now c.loop-from.invariant e (order_list (drop (c.loop-from.from + length (order_entry e)) a.order.now)) t.splits (search rules) (rw c.in_ok-pen.was at c.pass_entry.ensures))

pub returns-in_err-pen : goal.returns-in_err-pen
returns-in_err-pen c =
    let t = split (goal.at.returns-in_err-pen c).In_ok-entry in
    let a = c.args in
    rw c.from_residual-in_err-pen.ensures (passing-not (lent_of a.table.now a.rows.now a.received.now a.set.now) a.index.now (set_of a.names) a.order.now a.kept.now a.out.now (passing-as (lent_of a.table.now a.rows.now a.received.now a.set.now) a.index.now (set_of a.names) a.order.now a.kept.now a.out.now c.loop-from.invariant t.splits) ((rw c.in_err-pen.was at c.pass_entry.ensures) (order_list (drop (c.loop-from.from + length (order_entry (placed_as c.in_ok-entry.entry))) a.order.now))))

pub shape_of-out-in_err-entry : goal.shape_of-out-in_err-entry
shape_of-out-in_err-entry c = c.loop-from.invariant.long

pub returns-in_err-entry : goal.returns-in_err-entry
returns-in_err-entry c =
    let a = c.args in
    let e : order_front (drop c.loop-from.from a.order.now) ≡ none = sym (ap front_as (sym c.in_err-entry.was) ∙ rw to_end at c.front_at.ensures) in
    rw c.from_residual.ensures (passing-stopped (lent_of a.table.now a.rows.now a.received.now a.set.now) a.index.now (set_of a.names) a.order.now a.kept.now a.out.now c.loop-from.invariant (order-stop a.order.now c.loop-from.from c.loop-from-test.true e))

pub shape_of-out : goal.shape_of-out
shape_of-out c = c.loop-from.invariant.long

pub returns : goal.returns
returns c = let a = c.args in passing-as (lent_of a.table.now a.rows.now a.received.now a.set.now) a.index.now (set_of a.names) a.order.now a.kept.now a.out.now c.loop-from.invariant (order-nil (drop c.loop-from.from a.order.now) (simp length-drop (omega (arith, c.loop-from-test.false))))
