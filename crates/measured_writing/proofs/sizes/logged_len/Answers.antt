-- `logged_len` passes a run of entries of no known element, or an entry, a turn: the invariant says that the tally with the entries left is that of the whole log, if it is one.
-- The measure is what is left of the log.
use Prim.Native.Nat.{◌+◌, ◌≤◌}
use native.Mathlib.Omega.{arith}
use mathlib.Core.Path.{◌≡◌, ap, sym, ◌∙◌}
use mathlib.Core.Option.{none, some}
use lib.ListN.{length, drop, length-drop}
use Rattle.definitions.proofs.Orders.{order_front}
use Rattle.definitions.proofs.Lists.{to_end}
use Rattle.definitions.proofs.LogSteps.{OrderEntry, order-split}
use Rattle.order.specs.Order.{placed_as, front_as}
use Rattle.measured_writing.specs.Added.{filled_of}
use Rattle.measured_writing.specs.Sizes.{tally_of, AsidesAre}
use Rattle.measured_writing.proofs.Tallying.{walking-begun, walking-step, walking_run, walking-stopped, walking-ended}
use Rattle.measured_writing.proofs.sizes.logged_len.Goals as goal
use Rattle.measured_writing.proofs.sizes.logged_len.Goals.{In_ok-entry}

pub loop-at-init : goal.loop-at-init
loop-at-init c = rw c.new.ensures (walking-begun _ _)

pub overflow_add-at : goal.overflow_add-at
overflow_add-at c =
    let asided : let o = c.args.order.now in let at = c.loop-at.at in (at + c.asides-n.result ≤ length o) × AsidesAre (drop at o) c.asides-n.result = let e = rw to_end at c.asides-n.ensures in let d = length-drop c.loop-at.at c.args.order.now in (omega (arith, e.0, d, c.loop-at.invariant.inside), e.1) in
    omega (arith, (asided).0, c.requires.1)

pub loop-at-smaller-then-n-gt0 : goal.loop-at-smaller-then-n-gt0
loop-at-smaller-then-n-gt0 c =
    let asided : let o = c.args.order.now in let at = c.loop-at.at in (at + c.asides-n.result ≤ length o) × AsidesAre (drop at o) c.asides-n.result = let e = rw to_end at c.asides-n.ensures in let d = length-drop c.loop-at.at c.args.order.now in (omega (arith, e.0, d, c.loop-at.invariant.inside), e.1) in
    omega (arith, (asided).0)

pub loop-at-preserved-then-n-gt0 : goal.loop-at-preserved-then-n-gt0
loop-at-preserved-then-n-gt0 c =
    let asided : let o = c.args.order.now in let at = c.loop-at.at in (at + c.asides-n.result ≤ length o) × AsidesAre (drop at o) c.asides-n.result = let e = rw to_end at c.asides-n.ensures in let d = length-drop c.loop-at.at c.args.order.now in (omega (arith, e.0, d, c.loop-at.invariant.inside), e.1) in
    let a = c.args in
    let l = c.loop-at in
    let r = asided in
    walking_run (filled_of a.table.now a.rows.now a.received.now a.set.now) a.order.now (tally_of l.t) l.t.apart c.requires.0.passes c.asides-n.result l.at l.invariant r.0 r.1

-- the entry at the position
front : (c : In_ok-entry) → order_front (drop c.loop-at.at c.args.order.now) ≡ some (placed_as c.in_ok-entry.entry)
front c = sym (ap front_as (sym c.in_ok-entry.was) ∙ rw to_end at c.front_at.ensures)

split : (c : In_ok-entry) → OrderEntry c.args.order.now c.loop-at.at c.loop-at-test.true (placed_as c.in_ok-entry.entry)
split c = order-split c.args.order.now c.loop-at.at c.loop-at-test.true (front c)

pub with_entry-t-requires : goal.with_entry-t-requires
with_entry-t-requires c = (c.requires.0, omega (arith, c.loop-at.invariant.few, c.loop-at.invariant.inside, c.requires.1))

pub overflow_add-at-else-n-gt0 : goal.overflow_add-at-else-n-gt0
overflow_add-at-else-n-gt0 c = omega (arith, c.entry_len-at.ensures, (split (goal.at.overflow_add-at-else-n-gt0 c).In_ok-entry).within, c.requires.1)

pub loop-at-smaller : goal.loop-at-smaller
loop-at-smaller c = omega (arith, c.entry_len-at.ensures, (split (goal.at.loop-at-smaller c).In_ok-entry).octet, (split (goal.at.loop-at-smaller c).In_ok-entry).within)

pub loop-at-preserved : goal.loop-at-preserved
loop-at-preserved c = let a = c.args in rw c.entry_len-at.ensures (walking-step (filled_of a.table.now a.rows.now a.received.now a.set.now) a.order.now c.loop-at.at (tally_of c.loop-at.t) c.loop-at.t.apart c.loop-at.invariant c.requires.0.passes c.loop-at-test.true (front (goal.at.loop-at-preserved c).In_ok-entry) c.with_entry-t.ensures.0 c.with_entry-t.ensures.1)

pub returns-in_err-entry : goal.returns-in_err-entry
returns-in_err-entry c = let a = c.args in rw c.from_residual.ensures (let e : order_front (drop c.loop-at.at a.order.now) ≡ none = sym (ap front_as (sym c.in_err-entry.was) ∙ rw to_end at c.front_at.ensures) in walking-stopped (filled_of a.table.now a.rows.now a.received.now a.set.now) a.order.now c.loop-at.at (tally_of c.loop-at.t) c.loop-at.t.apart c.loop-at.invariant c.loop-at-test.true e)

pub returns : goal.returns
returns c = let a = c.args in walking-ended (filled_of a.table.now a.rows.now a.received.now a.set.now) a.order.now c.loop-at.at (tally_of c.loop-at.t) c.loop-at.t.apart c.loop-at.invariant c.loop-at-test.false
