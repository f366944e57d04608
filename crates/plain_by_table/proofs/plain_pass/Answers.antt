-- `plain_pass` enters an element a turn, as long as each is accepted in its turn: the invariant says that what is left gives, from the
-- present rows, what the whole part gives, whatever the start number and the option. The measure is what is left of the part.
use Prim.Native.Nat.{ℕ, ◌+◌, ◌*◌, ◌-◌, ◌≤◌, ◌<◌}
use native.Mathlib.Omega.{arith}
use mathlib.Core.Path.{◌≡◌, refl, ap, sym, ◌∙◌}
use mathlib.Core.List.{[], ◌∷◌}
use mathlib.Core.Bool.{Bool, false}
use borrow.Author.Tests.{not-true, not-false}
use lib.ListN.{length, get_or, drop}
use Rattle.std.specs.Prelude.{Option as Answered, Some, None}
use Rattle.definitions.specs.Rows.{rows_of, form, form_of, first_iei}
use Rattle.definitions.specs.Length.{header}
use Rattle.definitions.proofs.Lists.{to_end, length-over_at}
use Rattle.rows.specs.Numbers.{numbers_at, row_said}
use Rattle.rows.specs.declared.columns.Numbers.{Numbers}
use Rattle.rows.proofs.PutRow.{put-there}
use Rattle.elements.specs.Steps.{fit_of}
use Rattle.elements.specs.declared.element.Fit.{Fit}
use Rattle.elements.proofs.Came.{place-some}
use Rattle.by_index.specs.ByIndex.{rows_by}
use Rattle.plain_reading.specs.Entered.{before}
use Rattle.plain_reading.proofs.Lining.{Enters, begun, ended}
use Rattle.filling.proofs.ByIndex.{head-said}
use Rattle.plain_by_table.proofs.First.{own_first}
use Rattle.plain_by_table.proofs.Turns.{none-placeless, none-lower, none-second, none-untaken, enters-by, row-there}
use Rattle.plain_by_table.proofs.plain_pass.Goals as goal
use Rattle.plain_by_table.proofs.plain_pass.Goals.{After-numbers_at-row, Else-from-row, Else-not-fit, After-header-h}

pub loop-at-init : goal.loop-at-init
loop-at-init c = let a = c.args in (refl, λ start option. begun (rows_by a.table.now a.index.now) start option a.octets.now a.found.now)

-- an answer that is no place is none
none-of : (o : Answered ℕ) → ((k : ℕ) → o ≡ Some k → ⊥) → None ≡ o
none-of None h = refl
none-of (Some k) h = absurd (h k refl)

pub returns-in_default : goal.returns-in_default
returns-in_default c start option = let a = c.args in let l = c.loop-at in none-placeless a.table.now a.index.now start option a.octets.now a.found.now (l.invariant.1 start option) (omega arith) _ c.iei_of-iei.ensures (omega arith) (none-of c.place_by.result c.in_default.not-Some ∙ c.place_by.ensures)

pub returns-then-place-least : goal.returns-then-place-least
returns-then-place-least c start option = let a = c.args in let l = c.loop-at in none-lower a.table.now a.index.now start option a.octets.now a.found.now (l.invariant.1 start option) (omega arith) _ c.iei_of-iei.ensures (omega arith) _ (sym c.in-Some.is ∙ c.place_by.ensures) c.if-place-least.true

-- the first IEI is the row's
first-is : (c : After-numbers_at-row) → let a = c.args in c.numbers_at-row.result.first ≡ (numbers_at a.table.now c.in-Some.place).first
first-is c = ap (λ (n : Numbers). n.first) c.numbers_at-row.ensures

pub returns-then-from-row : goal.returns-then-from-row
returns-then-from-row c start option = let a = c.args in let l = c.loop-at in none-second a.table.now a.index.now start option a.octets.now a.found.now (l.invariant.1 start option) (omega arith) _ c.iei_of-iei.ensures (omega arith) _ (sym c.in-Some.is ∙ c.place_by.ensures) (λ q. c.if-from-row.true (c.from.ensures ∙ q ∙ sym (first-is (goal.at.returns-then-from-row c).After-numbers_at-row)))

pub returns-then-not-fit : goal.returns-then-not-fit
returns-then-not-fit c start option =
    let fit_is : let a = c.args in c.fit_of-fit.result ≡ fit_of (row_said (numbers_at a.table.now c.in-Some.place)) (drop c.loop-at.at a.octets.now) = rw (to_end, c.numbers_at-row.ensures) at c.fit_of-fit.ensures in
    let a = c.args in let l = c.loop-at in none-untaken a.table.now a.index.now start option a.octets.now a.found.now (l.invariant.1 start option) (omega arith) _ c.iei_of-iei.ensures (omega arith) _ (sym c.in-Some.is ∙ c.place_by.ensures) c.if-place-least.false (rw (← fit_is) (not-true _ c.if-not-fit.true))

-- an element in its turn, and the octets before its value
turn : (c : Else-not-fit) (start : ℕ) (option : Bool) → let a = c.args in let l = c.loop-at in Enters (rows_by a.table.now a.index.now) start option a.octets.now a.found.now l.at c.in-Some.place l.found c.fit_of-fit.result.len
turn c start option =
    let fit_is : let a = c.args in c.fit_of-fit.result ≡ fit_of (row_said (numbers_at a.table.now c.in-Some.place)) (drop c.loop-at.at a.octets.now) = rw (to_end, c.numbers_at-row.ensures) at c.fit_of-fit.ensures in
    let first-is : let a = c.args in c.numbers_at-row.result.first ≡ (numbers_at a.table.now c.in-Some.place).first = ap (λ (n : Numbers). n.first) c.numbers_at-row.ensures in
    rw (← ap (λ (f : Fit). f.len) (fit_is)) at (let a = c.args in let l = c.loop-at in enters-by a.table.now a.index.now start option a.octets.now a.found.now (l.invariant.1 start option) (omega arith) _ c.iei_of-iei.ensures (omega arith) _ (sym c.in-Some.is ∙ c.place_by.ensures) c.if-place-least.false (sym c.from.ensures ∙ c.if-from-row.false ∙ first-is) (rw (← fit_is) (not-false _ c.if-not-fit.false)))

-- its place is low, and one of the table's
low : (c : Else-not-fit) → c.in-Some.place < 128
low c = (place-some (get_or c.args.index.now c.iei_of-iei.result 0) (sym c.in-Some.is ∙ c.place_by.ensures)).1

there : (c : Else-not-fit) → let a = c.args in 4 * c.in-Some.place + 4 ≤ 4 * length (rows_of a.table.now)
there c =
    let fit_is : let a = c.args in c.fit_of-fit.result ≡ fit_of (row_said (numbers_at a.table.now c.in-Some.place)) (drop c.loop-at.at a.octets.now) = rw (to_end, c.numbers_at-row.ensures) at c.fit_of-fit.ensures in
    let a = c.args in
    let l = c.loop-at in
    row-there a.table.now a.index.now 0 false a.octets.now a.found.now (l.invariant.1 0 false) (omega arith) _ c.iei_of-iei.ensures (omega arith) _ (sym c.in-Some.is ∙ c.place_by.ensures) (rw (← fit_is) (not-false _ c.if-not-fit.false))

-- the IEI that is entered is the row's first
own : (c : Else-from-row) → let a = c.args in c.numbers_at-row.result.first ≡ first_iei (rows_by a.table.now a.index.now) c.in-Some.place
own c =
    let first-is : let a = c.args in c.numbers_at-row.result.first ≡ (numbers_at a.table.now c.in-Some.place).first = ap (λ (n : Numbers). n.first) c.numbers_at-row.ensures in
    let a = c.args in
    let k = place-some (get_or a.index.now c.iei_of-iei.result 0) (sym c.in-Some.is ∙ c.place_by.ensures) in
    let e : c.iei_of-iei.result ≡ c.numbers_at-row.result.first = sym c.from.ensures ∙ c.if-from-row.false in
    sym e ∙ own_first a.table.now a.index.now _ k.1 _ (omega arith) k.0 (e ∙ first-is)

pub overflow_mul-place : goal.overflow_mul-place
overflow_mul-place c = omega (arith, low (goal.at.overflow_mul-place c).Else-not-fit)

-- the octets before its value
headed : (c : After-header-h) → let a = c.args in c.header-h.result ≡ before (rows_by a.table.now a.index.now) c.in-Some.place
unfolding form
headed c =
    let a = c.args in
    let k = place-some (get_or a.index.now c.iei_of-iei.result 0) (sym c.in-Some.is ∙ c.place_by.ensures) in
    c.header-h.ensures ∙ ap header (c.form_of.ensures ∙ ap (λ (n : Numbers). form_of n.code n.size) c.numbers_at-row.ensures) ∙ sym (head-said a.table.now a.index.now c.in-Some.place k.1)

pub overflow_add-at : goal.overflow_add-at
overflow_add-at c =
    let f = turn (goal.at.overflow_add-at c).Else-not-fit 0 false in omega (arith, headed (goal.at.overflow_add-at c).After-header-h, f.headed, f.ends)

pub overflow_cast-at : goal.overflow_cast-at
overflow_cast-at c =
    let f = turn (goal.at.overflow_cast-at c).Else-not-fit 0 false in omega (arith, headed (goal.at.overflow_cast-at c).After-header-h, f.headed, f.ends, c.requires.short)

pub overflow_sub-n : goal.overflow_sub-n
overflow_sub-n c =
    let f = turn (goal.at.overflow_sub-n c).Else-not-fit 0 false in omega (arith, headed (goal.at.overflow_sub-n c).After-header-h, f.headed)

pub overflow_cast-n : goal.overflow_cast-n
overflow_cast-n c =
    let f = turn (goal.at.overflow_cast-n c).Else-not-fit 0 false in omega (arith, headed (goal.at.overflow_cast-n c).After-header-h, f.headed, f.ends, c.requires.short)

pub overflow_add-least : goal.overflow_add-least
overflow_add-least c = omega (arith, low (goal.at.overflow_add-least c).Else-not-fit)

pub overflow_add-at-in-loop-at : goal.overflow_add-at-in-loop-at
overflow_add-at-in-loop-at c = let f = turn (goal.at.overflow_add-at-in-loop-at c).Else-not-fit 0 false in omega (arith, f.ends, c.requires.short)

pub loop-at-smaller : goal.loop-at-smaller
loop-at-smaller c = let f = turn (goal.at.loop-at-smaller c).Else-not-fit 0 false in omega (arith, f.ends, f.some-octet)

pub loop-at-preserved : goal.loop-at-preserved
loop-at-preserved c =
    let m = goal.at.loop-at-preserved c in
    let l = c.loop-at in
    let k = c.in-Some.place in
    let room : 4 * k + 4 ≤ length l.found = omega (arith, there m.Else-not-fit, c.requires.room, l.invariant.0) in
    let e = c.put_row.ensures ∙ put-there (4 * k) (1 ∷ (l.at + c.header-h.result) ∷ (c.fit_of-fit.result.len - c.header-h.result) ∷ c.numbers_at-row.result.first ∷ []) l.found room in
    (ap length e ∙ length-over_at _ _ _ room ∙ l.invariant.0, λ start option. (turn m.Else-not-fit start option).then _ (rw (← headed m.After-header-h, ← own m.Else-from-row) e))

pub returns : goal.returns
returns c start option = let a = c.args in ended (rows_by a.table.now a.index.now) start option a.octets.now (c.loop-at.invariant.1 start option) (omega arith)
