-- `place_of` is what the index says of an IEI: its entry, or nowhere at 255.
-- Past the end of the index the definition has 255 too.
use native.Mathlib.Omega.{arith}
use Prim.Native.Nat.{ℕ}
use mathlib.Core.Path.{◌≡◌, refl, ap, ◌∙◌}
use mathlib.Core.Option.{some}
use borrow.Author.Tests.{eq-eqb, ne_eqb}
use lib.ListN.{get_or}
use Rattle.std.proofs.lemmas.List.{get_or_read}
use Rattle.definitions.specs.Rows.{place_in}
use Rattle.rows.proofs.Steps.{index-past, index-there}
use Rattle.rows.proofs.index.place_of.Goals as goal

pub returns-in_err-place : goal.returns-in_err-place
unfolding place_in
returns-in_err-place c = let a = c.args in rw (c.from_residual.ensures, index-past a.index.now a.iei (omega (arith, c.in_err-place.ensures.lookup)))

-- the entry that is read
pub returns-then-place : goal.returns-then-place
unfolding place_in
returns-then-place c =
    let a = c.args in
    let l = c.in_ok-place.ensures.lookup in
    let e = get_or_read a.index.now c.from.result _ (omega (arith, l)) l.1 0 ∙ ap (λ (i : ℕ). get_or a.index.now i 0) c.from.ensures in
    rw (index-there a.index.now a.iei (omega (arith, l)), eq-eqb (get_or a.index.now a.iei 0) 255 (omega (arith, e, c.if-place.true))) refl

pub returns : goal.returns
unfolding place_in
returns c =
    let a = c.args in
    let l = c.in_ok-place.ensures.lookup in
    let e = get_or_read a.index.now c.from.result _ (omega (arith, l)) l.1 0 ∙ ap (λ (i : ℕ). get_or a.index.now i 0) c.from.ensures in
    rw (index-there a.index.now a.iei (omega (arith, l)), ne_eqb (get_or a.index.now a.iei 0) 255 (λ q. omega (arith, e, c.if-place.false, q))) (ap some (c.from-2.ensures ∙ e))
