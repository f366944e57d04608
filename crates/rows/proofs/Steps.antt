-- An entry of an index, in it and past its end; the rows from a place on, of which there is one.
-- By induction on the list.
use Prim.Native.Nat.{ℕ, zero, suc, ◌≤◌, ◌<◌}
use native.Mathlib.Omega.{arith}
use mathlib.Core.Path.{◌≡◌, refl}
use mathlib.Core.List.{List, [], ◌∷◌}
use lib.ListN.{length, get_or, drop, get_or-eq_default}
use Rattle.definitions.specs.Rows.{Row, row_at, no_place}
use Rattle.definitions.specs.Mandatory.{MandatoryRow, mandatory_row_at}
use Rattle.std.specs.Prelude.{Option as Answered, Some, None}

pub index-past : (ix : List ℕ) (x : ℕ) → length ix ≤ x → get_or ix x no_place ≡ no_place
index-past ix x h = get_or-eq_default ix no_place h

pub index-there : (ix : List ℕ) (x : ℕ) → x < length ix → get_or ix x no_place ≡ get_or ix x 0
index-there [] x h = absurd (omega arith)
index-there (y ∷ ix) zero h = refl
index-there (y ∷ ix) (suc x) h = index-there ix x (omega arith)

pub row-front : (rs : List Row) (k : ℕ) → k < length rs → drop k rs ≡ row_at rs k ∷ drop (suc k) rs
unfolding row_at
row-front [] k h = absurd (omega arith)
row-front (r ∷ rs) zero h = refl
row-front (r ∷ rs) (suc k) h = row-front rs k (omega arith)

pub mandatory-drop : (rs : List MandatoryRow) (k : ℕ) → k < length rs → drop k rs ≡ mandatory_row_at rs k ∷ drop (suc k) rs
unfolding mandatory_row_at
mandatory-drop [] k h = absurd (omega arith)
mandatory-drop (r ∷ rs) zero h = refl
mandatory-drop (r ∷ rs) (suc k) h = mandatory-drop rs k (omega arith)

-- an answer that is no `Some`
pub none-where : {A : Type 0} (o : Answered A) → ((x : A) → o ≡ Some x → ⊥) → o ≡ None
none-where None h = refl
none-where (Some x) h = absurd (h x refl)
