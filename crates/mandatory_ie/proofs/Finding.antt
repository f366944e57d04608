-- What a value takes lies within the octets, by the form; and what a lookup gave that is refused where it gave nothing.
-- By cases.
use Prim.Native.Nat.{ℕ, ◌+◌, ◌≤◌, ◌<◌}
use native.Mathlib.Omega.{arith}
use mathlib.Core.Path.{◌≡◌, refl}
use mathlib.Core.List.{List, [], ◌∷◌}
use mathlib.Core.Bool.{Bool, true, false}
use mathlib.Core.Option.{Option, none, some}
use borrow.Author.Tests.{leb-true}
use lib.ListN.{length, get_or, take, drop}
use lib.Dec.{leb}
use Rattle.std.specs.Prelude.{Option as Answered, Some, None, Ok, Err, slice_get}
use Rattle.std.specs.Option.{ok_or}
use Rattle.definitions.specs.Basic.{pick}
use Rattle.definitions.specs.Octets.{number_at}
use Rattle.definitions.specs.Mandatory.{MandatoryRow, MandatoryForm, low_half, high_half, fixed_v, lv, lv-e, mandatory_form, Found as DefFound, missing, truncated, value, behind, counted, found_by, fault_of}
use Rattle.mandatory_ie.specs.Founds.{fault_as, found_as}
use Rattle.mandatory_ie.specs.declared.Found.{Found}

abbrev Within : ℕ → DefFound → Type 0
Within l missing = Unit
Within l truncated = Unit
Within l (value h n took v) = (took ≤ l) × (h + n ≤ l)

behind-within : (h n : ℕ) (s : List ℕ) → Within (length s) (behind h n s)
unfolding behind
behind-within h n s = go (leb (h + n) (length s)) refl
  where
    go : (b : Bool) → leb (h + n) (length s) ≡ b → Within (length s) (pick b (value h n (h + n) (take n (drop h s))) truncated)
    go true e = let l : h + n ≤ length s = leb-true (h + n) (length s) e in (l, l)
    go false e = tt

counted-within : (w : ℕ) (s : List ℕ) (o : Option ℕ) → Within (length s) (counted w s o)
unfolding counted
counted-within w s none = tt
counted-within w s (some n) = behind-within w n s

by-within : (f : MandatoryForm) (s : List ℕ) → Within (length s) (found_by f s)
unfolding found_by
by-within f [] = tt
by-within low_half (x ∷ s) = (omega arith, omega arith)
by-within high_half (x ∷ s) = (omega arith, omega arith)
by-within (fixed_v n) (x ∷ s) = behind-within 0 n (x ∷ s)
by-within lv (x ∷ s) = counted-within 1 (x ∷ s) (number_at 1 0 (x ∷ s))
by-within lv-e (x ∷ s) = counted-within 2 (x ∷ s) (number_at 2 0 (x ∷ s))

pub found_within : (r : MandatoryRow) (s : List ℕ) (f : Found) → found_as r (found_by (mandatory_form r) s) ≡ Ok f → (f.took ≤ length s) × (f.start + f.len ≤ length s)
found_within r s f e = go (found_by (mandatory_form r) s) (by-within (mandatory_form r) s) e
  where
    go : (d : DefFound) → Within (length s) d → found_as r d ≡ Ok f → (f.took ≤ length s) × (f.start + f.len ≤ length s)
    go missing w e = let z : ◌≡◌ {A = ℕ} 0 1 = cc in absurd (omega arith)
    go truncated w e = let z : ◌≡◌ {A = ℕ} 0 1 = cc in absurd (omega arith)
    go (value h n took v) w e =
        let q : record { start = h; len = n; took = took; fault = fault_as (fault_of r took v) } ≡ f = cc in
        rw (← q) (omega (arith, w.0), omega (arith, w.1))

-- ---- what was looked up

pub given : {T E : Type 0} (o : Answered T) (e : E) {x : T} → ok_or o e ≡ Ok x → o ≡ Some x
given None e q = cc
given (Some y) e q = cc

pub lacking : {T E : Type 0} (o : Answered T) (e : E) {f : E} → ok_or o e ≡ Err f → (o ≡ None) × (f ≡ e)
lacking None e q = (refl, cc)
lacking (Some y) e q = cc

-- the first octet
pub first-given : (s : List ℕ) {x : ℕ} → Some x ≡ slice_get s 0 → (0 < length s) × (get_or s 0 0 ≡ x)
first-given [] e = cc
first-given (y ∷ ys) e = (omega arith, cc)

pub first-lacking : (s : List ℕ) → None ≡ slice_get s 0 → length s ≡ 0
first-lacking [] e = refl
first-lacking (y ∷ ys) e = cc
