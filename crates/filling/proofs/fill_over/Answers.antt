-- `fill_over` sees first that the arrays hold what any part of this length needs, so that every element can be entered.
-- Where the part is cut short, each array is cleared to its end.
use Prim.Native.Nat.{ℕ}
use native.Mathlib.Omega.{arith}
use mathlib.Core.Path.{◌≡◌, ap, sym, ◌∙◌}
use lib.ListN.{length, replicate}
use Rattle.filling.specs.Decodes.{lent_of}
use Rattle.filling.specs.Fills.{twice}
use Rattle.filling.specs.Filled.{holds}
use Rattle.filling.proofs.Arrays.{Holds, held, no_room, all-entered, all-cut}
use Rattle.filling.proofs.fill_over.Goals as goal
use Rattle.filling.proofs.fill_over.Goals.{After-may_hold, Else-not-may_hold}

-- what was asked
asked : (c : After-may_hold) → let a = c.args in c.may_hold.result ≡ holds a.table.now a.octets.now (lent_of a.rows.now a.kept.now a.order.now)
unfolding holds
asked c =
    c.may_hold.ensures

-- the arrays hold what the part may need
fit : (c : Else-not-may_hold) → let a = c.args in Holds a.table.now a.index.now a.tlve_start a.option a.octets.now a.rows.now a.kept.now a.order.now
unfolding holds
fit c =
    let asked : let a = c.args in c.may_hold.result ≡ holds a.table.now a.octets.now (lent_of a.rows.now a.kept.now a.order.now) = c.may_hold.ensures in
    let a = c.args in held a.table.now a.index.now a.tlve_start a.option a.octets.now a.rows.now a.kept.now a.order.now (sym asked ∙ c.if-not-may_hold.false)

pub returns-then-not-may_hold : goal.returns-then-not-may_hold
returns-then-not-may_hold c =
    let a = c.args in no_room a.table.now a.index.now a.tlve_start a.option a.octets.now a.rows.now a.kept.now a.order.now (sym (asked (goal.at.returns-then-not-may_hold c).After-may_hold) ∙ c.if-not-may_hold.true)

pub fill_elements-requires : goal.fill_elements-requires
fill_elements-requires c =
    let h = fit (goal.at.fill_elements-requires c).Else-not-may_hold in record { short = h.short; rows-room = h.rows-room; room = twice (omega (arith, h.kept-room)) (omega (arith, h.order-room)) }

pub returns-in-Ok : goal.returns-in-Ok
returns-in-Ok c =
    let a = c.args in
    let h = fit (goal.at.returns-in-Ok c).Else-not-may_hold in
    all-entered a.table.now a.index.now a.tlve_start a.option a.octets.now a.rows.now a.kept.now a.order.now h.short h.rows-room h.kept-room h.order-room (rw c.in-Ok.is at c.fill_elements.ensures)

zeros : {m n : ℕ} → m ≡ n → replicate {A = ℕ} m 0 ≡ replicate n 0
zeros e = ap (λ (x : ℕ). replicate {A = ℕ} x 0) e

pub returns-in-Err : goal.returns-in-Err
returns-in-Err c =
    let a = c.args in
    let h = fit (goal.at.returns-in-Err c).Else-not-may_hold in
    let l = c.fill_elements.new in
    let e = c.clear_all.ensures in
    all-cut a.table.now a.index.now a.tlve_start a.option a.octets.now a.rows.now a.kept.now a.order.now h.short h.rows-room h.kept-room h.order-room (rw c.in-Err.is at c.fill_elements.ensures) (e.rows_after ∙ zeros {m = length l.rows} {n = length a.rows.now} (omega arith)) (e.kept_after ∙ zeros {m = length l.kept} {n = length a.kept.now} (omega arith)) (e.order_after ∙ zeros {m = length l.order} {n = length a.order.now} (omega arith))
