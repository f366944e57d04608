-- `first_offender` takes an element a turn, as long as each is in its turn and not too long: the invariant says that what is left gives
-- the answer of the whole part, whatever the start number. The measure is what is left of the part.
use Prim.Native.Nat.{ℕ, ◌+◌, ◌≤◌}
use native.Mathlib.Omega.{arith}
use mathlib.Core.Path.{◌≡◌, ap, sym, ◌∙◌}
use borrow.Author.Tests.{not-true, not-false}
use lib.ListN.{length, drop}
use Rattle.definitions.specs.Rows.{rows_of, row_at, first_iei}
use Rattle.definitions.proofs.Lists.{to_end}
use Rattle.rows.specs.declared.columns.Numbers.{Numbers}
use Rattle.elements.specs.Steps.{fit_of}
use Rattle.elements.specs.declared.element.Fit.{Fit}
use Rattle.elements.proofs.Came.{row_same}
use Rattle.checking.proofs.Walking.{Turn, begun, ended, stops-unlisted, stops-below, stops-other, stops-untaken, stops-long, small, reaches, turns}
use Rattle.checking.proofs.first_offender.Goals as goal
use Rattle.checking.proofs.first_offender.Goals.{After-numbers_at-row, After-fit_of-fit, Else-fit-row, then-not-fit-via-then-not-fit, then-not-fit-via-else-not-fit+then-fit-row}

pub loop-at-init : goal.loop-at-init
loop-at-init c = let a = c.args in begun a.table.now a.index.now a.part.now c.requires

pub returns-in_default : goal.returns-in_default
returns-in_default c start = let a = c.args in let l = c.loop-at in stops-unlisted a.table.now a.index.now a.part.now c.requires l.at l.least (omega arith) _ c.iei_of-iei.ensures (omega arith) c.in_default.ensures start (l.invariant start)

pub returns-then-place-least : goal.returns-then-place-least
returns-then-place-least c start = let a = c.args in let l = c.loop-at in stops-below a.table.now a.index.now a.part.now c.requires l.at l.least (omega arith) _ c.iei_of-iei.ensures (omega arith) _ c.in-Some.ensures c.if-place-least.true start (l.invariant start)

-- the numbers are the row's
first-is : (c : After-numbers_at-row) → c.numbers_at-row.result.first ≡ first_iei (rows_of c.args.table.now) c.in-Some.place
first-is c = ap (λ (n : Numbers). n.first) c.numbers_at-row.ensures ∙ c.requires.indexed.whole.first c.in-Some.place

greatest-is : (c : After-numbers_at-row) → c.numbers_at-row.result.greatest ≡ (row_at (rows_of c.args.table.now) c.in-Some.place).greatest
greatest-is c = ap (λ (n : Numbers). n.greatest) c.numbers_at-row.ensures ∙ c.requires.indexed.whole.greatest c.in-Some.place

fit-is : (c : After-fit_of-fit) → c.fit_of-fit.result ≡ fit_of (row_at (rows_of c.args.table.now) c.in-Some.place) (drop c.loop-at.at c.args.part.now)
fit-is c = rw (to_end, c.numbers_at-row.ensures) at c.fit_of-fit.ensures ∙ row_same _ c.requires.indexed.whole _ _

pub returns-then-from-row : goal.returns-then-from-row
returns-then-from-row c start = let a = c.args in let l = c.loop-at in stops-other a.table.now a.index.now a.part.now c.requires l.at l.least (omega arith) _ c.iei_of-iei.ensures (omega arith) _ c.in-Some.ensures (λ q. c.if-from-row.true (c.from.ensures ∙ q ∙ sym (first-is (goal.at.returns-then-from-row c).After-numbers_at-row))) start (l.invariant start)

pub returns-then-not-fit : goal.returns-then-not-fit
returns-then-not-fit c start =
    let f = fit-is (goal.at.returns-then-not-fit c).After-fit_of-fit in
    let g = greatest-is (goal.at.returns-then-not-fit c).After-numbers_at-row in
    let a = c.args in
    let l = c.loop-at in
    elim
    c.then-not-fit.branch [
      | then-not-fit-via-then-not-fit w ↦ stops-untaken a.table.now a.index.now a.part.now c.requires l.at l.least (omega arith) _ c.iei_of-iei.ensures (omega arith) _ c.in-Some.ensures c.if-place-least.false (sym (ap (λ (f : Fit). f.taken) f) ∙ not-true _ w.if-not-fit.true) start (l.invariant start)
      | then-not-fit-via-else-not-fit+then-fit-row w ↦ stops-long a.table.now a.index.now a.part.now c.requires l.at l.least (omega arith) _ c.iei_of-iei.ensures (omega arith) _ c.in-Some.ensures (rw (← ap (λ (f : Fit). f.len) f, ← g) w.if-fit-row.true) start (l.invariant start)
    ]

-- the next turn, and where it is
next-turn : (c : Else-fit-row) → c.fit_of-fit.result ≡ fit_of (row_at (rows_of c.args.table.now) c.in-Some.place) (drop c.loop-at.at c.args.part.now) → c.numbers_at-row.result.first ≡ first_iei (rows_of c.args.table.now) c.in-Some.place
    → c.numbers_at-row.result.greatest ≡ (row_at (rows_of c.args.table.now) c.in-Some.place).greatest → (start : ℕ) → Turn c.args.table.now start c.args.part.now (c.loop-at.at + c.fit_of-fit.result.len) (c.in-Some.place + 1)
next-turn c f first greatest start =
    let length-is = ap (λ (f : Fit). f.len) f in
    let a = c.args in
    let l = c.loop-at in
    rw length-is (turns a.table.now a.index.now a.part.now c.requires l.at l.least (omega arith) _ c.iei_of-iei.ensures (omega arith) _ c.in-Some.ensures c.if-place-least.false (sym c.from.ensures ∙ c.if-from-row.false ∙ first) (sym (ap (λ (f : Fit). f.taken) f) ∙ not-false _ c.if-not-fit.false) (rw (← length-is, ← greatest) c.if-fit-row.false) start (l.invariant start))

there : (c : Else-fit-row) → c.fit_of-fit.result ≡ fit_of (row_at (rows_of c.args.table.now) c.in-Some.place) (drop c.loop-at.at c.args.part.now) → (1 ≤ c.fit_of-fit.result.len) × (c.loop-at.at + c.fit_of-fit.result.len ≤ length c.args.part.now)
there c f =
    let a = c.args in
    let l = c.loop-at in
    rw (ap (λ (f : Fit). f.len) f) (reaches a.table.now a.index.now a.part.now c.requires l.at l.least (omega arith) _ c.iei_of-iei.ensures (omega arith) _ c.in-Some.ensures)

pub overflow_add-least : goal.overflow_add-least
overflow_add-least c = let s = let a = c.args in let l = c.loop-at in small a.table.now a.index.now a.part.now c.requires l.at l.least (omega arith) _ c.iei_of-iei.ensures (omega arith) _ c.in-Some.ensures in omega (arith, s)

pub overflow_add-at : goal.overflow_add-at
overflow_add-at c = let f = there (goal.at.overflow_add-at c).Else-fit-row (fit-is (goal.at.overflow_add-at c).After-fit_of-fit) in omega (arith, f.1, c.requires.short)

pub loop-at-smaller : goal.loop-at-smaller
loop-at-smaller c = let f = there (goal.at.loop-at-smaller c).Else-fit-row (fit-is (goal.at.loop-at-smaller c).After-fit_of-fit) in omega (arith, f.0, f.1)

pub loop-at-preserved : goal.loop-at-preserved
loop-at-preserved c start = let g = goal.at.loop-at-preserved c in next-turn g.Else-fit-row (fit-is g.After-fit_of-fit) (first-is g.After-numbers_at-row) (greatest-is g.After-numbers_at-row) start

pub returns : goal.returns
returns c start = ended (c.loop-at.invariant start) (omega arith)
