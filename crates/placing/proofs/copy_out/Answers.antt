-- `copy_out` copies the octets that were found where both the array and the output have so many.
-- There is room for them, so none is left out.
use native.Mathlib.Omega.{arith}
use mathlib.Core.Path.{◌≡◌, refl, ap, ◌∙◌}
use mathlib.Core.List.{List}
use mathlib.Core.Logic.{inl, inr}
use Prim.Native.Nat.{ℕ}
use lib.ListN.{length, take, length-take}
use lib.Seq.{take_all}
use Rattle.definitions.specs.Basic.{over}
use Rattle.placing.proofs.copy_out.Goals as goal

pub returns-then-found-n : goal.returns-then-found-n
returns-then-found-n c = (refl, λ n e. let g = c.in_ok-n.was in let z : n ≡ c.in_ok-n.n = cc in elim c.then-found-n.either [ inl p ↦ omega arith | inr p ↦ omega (arith, p.1) ])

pub slice_bounds-put_slice-end : goal.slice_bounds-put_slice-end
slice_bounds-put_slice-end c = simp length-take (omega arith)

pub returns : goal.returns
returns c = record { found_at = c.in_ok-n.was; there = c.if-found-n.false; room = c.if-output-n.false; is = c.put_slice.ensures ∙ ap (λ (x : List ℕ). over x c.args.output.now) (take_all (length c.args.output.now) (take c.in_ok-n.n c.args.found.now) (simp length-take (omega (arith, c.if-output-n.false)))) }

pub returns-in_err-n : goal.returns-in_err-n
returns-in_err-n c = rw c.from_residual.ensures (refl, λ n e. let g = c.in_err-n.was in let z : ◌≡◌ {A = ℕ} 0 1 = cc in absurd (omega arith))
