-- `walk_log` passes an entry a turn: the invariant says what is known with the entries left.
-- The measure is what is left of the log.
use native.Mathlib.Omega.{arith}
use mathlib.Core.Path.{◌≡◌, ap, sym, ◌∙◌}
use mathlib.Core.Option.{none, some}
use lib.ListN.{drop}
use Rattle.definitions.specs.Rows.{rows_of, first_iei}
use Rattle.definitions.proofs.Orders.{order_front}
use Rattle.definitions.proofs.Lists.{to_end}
use Rattle.definitions.proofs.LogSteps.{OrderEntry, order-split, order-never}
use Rattle.order.specs.Order.{placed_as}
use Rattle.rows.specs.declared.columns.Numbers.{Numbers}
use Rattle.rows.proofs.WholeRows.{whole-rows}
use Rattle.edits.proofs.Logged.{walking-begun, walking-step, walking-ended}
use Rattle.edits.proofs.log.walk_log.Goals as goal
use Rattle.edits.proofs.log.walk_log.Goals.{In-Some}

pub loop-at-init : goal.loop-at-init
loop-at-init c = let e : c.numbers_at-row.result.first ≡ first_iei (rows_of c.args.table.now) c.args.want = ap (λ (n : Numbers). n.first) c.numbers_at-row.ensures ∙ (whole-rows c.args.table.now c.requires.0.passes).first c.args.want in rw (c.new.ensures, e) (walking-begun (rows_of c.args.table.now) c.args.rows.now c.args.want c.args.order.now c.requires.2)

-- the entry at the position
front : (c : In-Some) → order_front (drop c.loop-at.at c.args.order.now) ≡ some (placed_as c.in-Some.entry)
front c = sym (rw to_end at c.in-Some.ensures)

split : (c : In-Some) → OrderEntry c.args.order.now c.loop-at.at c.loop-at-test.true (placed_as c.in-Some.entry)
split c = order-split c.args.order.now c.loop-at.at c.loop-at-test.true (front c)

pub with_entry-a-requires : goal.with_entry-a-requires
with_entry-a-requires c = c.requires.0

pub overflow_add-at : goal.overflow_add-at
overflow_add-at c = omega (arith, c.entry_len-at.ensures, (split (goal.at.overflow_add-at c).In-Some).within, c.requires.1)

pub loop-at-smaller : goal.loop-at-smaller
loop-at-smaller c = omega (arith, c.entry_len-at.ensures, (split (goal.at.loop-at-smaller c).In-Some).octet, (split (goal.at.loop-at-smaller c).In-Some).within)

pub loop-at-preserved : goal.loop-at-preserved
loop-at-preserved c = rw c.entry_len-at.ensures (walking-step (rows_of c.args.table.now) c.args.rows.now c.args.want c.args.order.now c.requires.0.passes c.loop-at.at c.loop-at.a c.loop-at.invariant c.loop-at-test.true (front (goal.at.loop-at-preserved c).In-Some) c.with_entry-a.ensures)

pub returns-in_default : goal.returns-in_default
returns-in_default c = let e : order_front (drop c.loop-at.at c.args.order.now) ≡ none = sym (rw to_end at c.in_default.ensures) in absurd (order-never _ _ c.loop-at-test.true c.loop-at.invariant.here e)

pub returns : goal.returns
returns c = walking-ended (rows_of c.args.table.now) c.args.rows.now c.args.want c.args.order.now c.loop-at.at c.loop-at.a c.loop-at.invariant c.loop-at-test.false
