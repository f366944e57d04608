-- A step by what stands at the front: at the end nothing, else what the place of its IEI says.
-- By whether an octet is left.
use Prim.Native.Nat.{ℕ, ◌<◌}
use native.Mathlib.Omega.{arith}
use mathlib.Core.Path.{◌≡◌, refl, ap, ◌∙◌}
use mathlib.Core.List.{List, [], ◌∷◌}
use mathlib.Core.Bool.{Bool}
use native.Mathlib.Nat.{add-zero}
use lib.ListN.{length, get_or, drop}
use lib.Seq.{get_or-drop}
use Rattle.definitions.specs.Rows.{Row, iei_of, place_of}
use Rattle.definitions.specs.Elements.{Met, step, place_step, ended}

module _ (t : List Row) (start : ℕ) (option : Bool) (m : Met) (at : ℕ) where
  pub step_end : (s : List ℕ) → length s ≡ 0 → step t start option m at s ≡ ended
  unfolding step
  step_end [] h = refl
  step_end (x ∷ xs) h = absurd (omega arith)

  pub step-some : (s : List ℕ) → 0 < length s → step t start option m at s ≡ place_step t start option m at (get_or s 0 0) s (place_of t (iei_of (get_or s 0 0)))
  unfolding step
  step-some [] h = absurd (omega arith)
  step-some (x ∷ xs) h = refl

-- the first octet of what is left from a position on
pub left-first : (at : ℕ) (part : List ℕ) → get_or (drop at part) 0 0 ≡ get_or part at 0
left-first at part = get_or-drop at part 0 0 ∙ ap (λ (n : ℕ). get_or part n 0) (add-zero at)
