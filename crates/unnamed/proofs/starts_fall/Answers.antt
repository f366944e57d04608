-- `starts_fall` looks at a place a turn: what is left of the places falls where all of them do.
-- Each turn by the place's source.
use Prim.Native.Nat.{◌+◌, ◌-◌}
use native.Mathlib.Omega.{arith}
use mathlib.Core.Path.{◌≡◌, ap, sym, ◌∙◌}
use Rattle.definitions.specs.Values.{Value}
use Rattle.unnamed.specs.Named.{falls_from}
use Rattle.unnamed.proofs.Naming.{falls-here, falls-on, falls-past, falls-over}
use Rattle.unnamed.proofs.starts_fall.Goals as goal
use Rattle.unnamed.proofs.starts_fall.Goals.{then-row-eq1+else-row-high, else-row-eq1}

pub loop-k-init : goal.loop-k-init
loop-k-init c = let z : c.args.places - 0 ≡ c.args.places = omega arith in rw z

pub returns-then-row-high : goal.returns-then-row-high
returns-then-row-high c =
    let a = c.args in
    let l = c.loop-k in
    let e = c.row_at-row.ensures in
    sym (l.invariant ∙ falls-here a.rows.now l.k a.places l.high c.loop-k-test.true (sym (ap (λ (v : Value). v.source) e) ∙ c.if-row-eq1.true) (rw (ap (λ (v : Value). v.start) e) at c.if-row-high.true))

pub loop-k-preserved : goal.loop-k-preserved
loop-k-preserved c =
    let a = c.args in
    let l = c.loop-k in
    let e = c.row_at-row.ensures in
    let h = c.loop-k-test.true in
    l.invariant
    ∙ elim c.if-row-eq1.branch [
      | then-row-eq1+else-row-high w ↦ falls-on a.rows.now l.k a.places l.high h (sym (ap (λ (v : Value). v.source) e) ∙ w.if-row-eq1.true) (rw (ap (λ (v : Value). v.start) e) at w.if-row-high.false) ∙ ap (falls_from a.rows.now (l.k + 1) (a.places - (l.k + 1))) (sym (ap (λ (v : Value). v.start) e) ∙ sym w.high-is)
      | else-row-eq1 w ↦ falls-past a.rows.now l.k a.places l.high h (λ q. w.if-row-eq1.false (ap (λ (v : Value). v.source) e ∙ q)) ∙ ap (falls_from a.rows.now (l.k + 1) (a.places - (l.k + 1))) (sym w.high-is)
    ]

pub returns : goal.returns
returns c =
    let a = c.args in
    let l = c.loop-k in
    sym (l.invariant ∙ falls-over a.rows.now l.k a.places l.high c.loop-k-test.false)
