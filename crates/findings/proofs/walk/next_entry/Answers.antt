-- `next_entry` passes the entry at the front of what is left of the order log.
-- The log is well formed from there on, so that there is one.
use native.Mathlib.Omega.{arith}
use mathlib.Core.Path.{◌≡◌, ap, sym, ◌∙◌}
use mathlib.Core.Option.{none, some}
use lib.ListN.{drop}
use Rattle.definitions.proofs.Lists.{to_end}
use Rattle.definitions.proofs.LogSteps.{order-split, order-never}
use Rattle.definitions.proofs.Orders.{order_front}
use Rattle.order.specs.Order.{placed_as, front_as}
use Rattle.findings.proofs.Walked.{stepped}
use Rattle.findings.proofs.walk.next_entry.Goals as goal
use Rattle.findings.proofs.walk.next_entry.Goals.{In-Some}

-- the entry at the position
front : (c : In-Some) → order_front (drop c.args.w.order c.args.order.now) ≡ some (placed_as c.in-Some.entry)
front c = sym (ap front_as (sym c.in-Some.is) ∙ rw to_end at c.front_at.ensures)

pub overflow_add-walk : goal.overflow_add-walk
overflow_add-walk c = let s = order-split c.args.order.now c.args.w.order c.requires.1 (front (goal.at.overflow_add-walk c).In-Some) in omega (arith, s.within, c.entry_len.ensures)

pub returns-in-Some : goal.returns-in-Some
returns-in-Some c = let a = c.args in rw c.entry_len.ensures (stepped a.index.now a.order.now a.kept.now a.w c.requires.0 c.requires.1 (placed_as c.in-Some.entry) c.judge-judged.result (front (goal.at.returns-in-Some c).In-Some) c.judge-judged.ensures)

pub returns-in-None : goal.returns-in-None
returns-in-None c =
    let a = c.args in
    let e : order_front (drop a.w.order a.order.now) ≡ none = sym (ap front_as (sym c.in-None.is) ∙ rw to_end at c.front_at.ensures) in
    absurd (order-never a.order.now a.w.order c.requires.1 c.requires.0.order-at e)
