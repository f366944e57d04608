-- Mandatory rows: how many a table that passes has, what a row finds by its form, and one row of reading.
-- Each law settles the tests before it.
use Prim.Native.Nat.{ℕ, suc, ◌+◌, ◌/◌, ◌%◌, ◌≤◌, ◌<◌}
use native.Mathlib.Omega.{arith}
use mathlib.Core.Path.{◌≡◌, refl, ap}
use mathlib.Core.List.{List, [], ◌∷◌, ◌++◌}
use mathlib.Core.Logic.{◌⊎◌, inl, inr, ⊎_elim}
use mathlib.Core.Bool.{Bool, true, false, ◌&&◌}
use mathlib.Core.Option.{Option, none, some}
use borrow.Author.Tests.{le-leb, lt-leb, ltb-true}
use lib.ListN.{length, get_or, take, drop}
use lib.Dec.{ltb, eqb}
use Rattle.definitions.specs.Basic.{pick, receivable}
use Rattle.definitions.specs.Octets.{number_at}
use Rattle.definitions.specs.Mandatory.{MandatoryRow, MandatoryForm, low_half, high_half, fixed_v, lv, lv-e, mandatory_form, is_half, good_mandatory, most_mandatory, first_bad_mandatory_from, first_bad_mandatory, missing, truncated, value, behind, counted, found_by, fault_of, stopped, noted, rowed}
use Rattle.definitions.proofs.Octets.{number-one}
use Rattle.definitions.proofs.RowLaws.{both}

-- ---- a table that passes has at most 32 rows

few-from : (k : ℕ) (after : Bool) (t : List MandatoryRow) → first_bad_mandatory_from k after t ≡ none → length t ≡ 0 ⊎ (k + length t ≤ 32)
unfolding first_bad_mandatory_from
few-from k after [] p = inl refl
few-from k after (r ∷ rs) p = go (ltb k most_mandatory && good_mandatory after r rs) refl p (few-from (suc k) (eqb r.code 0) rs)
  where
    go :
        (b : Bool) → (ltb k most_mandatory && good_mandatory after r rs) ≡ b → pick b (first_bad_mandatory_from (suc k) (eqb r.code 0) rs) (some k) ≡ none
        → (first_bad_mandatory_from (suc k) (eqb r.code 0) rs ≡ none → length rs ≡ 0 ⊎ (suc k + length rs ≤ 32)) → length (r ∷ rs) ≡ 0 ⊎ (k + length (r ∷ rs) ≤ 32)
    go false e p n = let z : ◌≡◌ {A = ℕ} 0 1 = cc in absurd (omega arith)
    go true e p n =
        let h : k < 32 = ltb-true k most_mandatory (both (ltb k most_mandatory) (good_mandatory after r rs) e).0 in
        inr (⊎_elim (λ z. omega arith) (λ z. omega arith) (n p))

pub few-mandatory : (t : List MandatoryRow) → first_bad_mandatory t ≡ none → length t ≤ 32
unfolding first_bad_mandatory
few-mandatory t p = ⊎_elim (λ z. omega arith) (λ z. omega arith) (few-from 0 false t p)

-- ---- what a row finds

module _ (h n : ℕ) (s : List ℕ) where
  pub behind-short : length s < h + n → behind h n s ≡ truncated
  unfolding behind
  behind-short l = rw (lt-leb (h + n) (length s) l)

  pub behind-there : h + n ≤ length s → behind h n s ≡ value h n (h + n) (take n (drop h s))
  unfolding behind
  behind-there l = rw (le-leb (h + n) (length s) l)

pub found_none : (f : MandatoryForm) (s : List ℕ) → length s ≡ 0 → found_by f s ≡ missing
unfolding found_by
found_none f [] e = refl
found_none f (x ∷ s) e = absurd (omega arith)

pub found-low : (s : List ℕ) → 0 < length s → found_by low_half s ≡ value 0 1 0 ((get_or s 0 0 % 16) ∷ [])
unfolding found_by
found-low [] h = absurd (omega arith)
found-low (x ∷ s) h = refl

pub found-high : (s : List ℕ) → 0 < length s → found_by high_half s ≡ value 0 1 1 ((get_or s 0 0 / 16) ∷ [])
unfolding found_by
found-high [] h = absurd (omega arith)
found-high (x ∷ s) h = refl

pub found-fixed : (n : ℕ) (s : List ℕ) → 0 < length s → found_by (fixed_v n) s ≡ behind 0 n s
unfolding found_by
found-fixed n [] h = absurd (omega arith)
found-fixed n (x ∷ s) h = refl

pub found-lv : (s : List ℕ) → 0 < length s → found_by lv s ≡ behind 1 (get_or s 0 0) s
unfolding found_by counted
found-lv [] h = absurd (omega arith)
found-lv (x ∷ s) h = ap (counted 1 (x ∷ s)) (number-one 0 (x ∷ s) (omega arith))

pub found-lv-e : (s : List ℕ) → 0 < length s → found_by lv-e s ≡ counted 2 s (number_at 2 0 s)
unfolding found_by
found-lv-e [] h = absurd (omega arith)
found-lv-e (x ∷ s) h = refl

-- a fault is 8 or 9
pub by-fault : (P : Option ℕ → Type 0) (r : MandatoryRow) (took : ℕ) (v : List ℕ) → P none → P (some 8) → P (some 9) → P (fault_of r took v)
unfolding fault_of
by-fault P r took v a b d = go (ltb took r.least) (receivable (is_half r) r.kinds v)
  where
    go : (x y : Bool) → P (pick x (some 8) (pick y none (some 9)))
    go true y = b
    go false true = a
    go false false = d

-- ---- one row of reading

module _ (lenient : Bool) (k at : ℕ) (r : MandatoryRow) (rs : List MandatoryRow) (s rows notes : List ℕ) where
  pub row-missing : found_by (mandatory_form r) s ≡ missing → rowed lenient k at (r ∷ rs) s rows notes ≡ stopped 6 k at rows notes
  unfolding rowed
  row-missing e = rw (e, rowed)

  pub row-truncated : found_by (mandatory_form r) s ≡ truncated → rowed lenient k at (r ∷ rs) s rows notes ≡ stopped 7 k at rows notes
  unfolding rowed
  row-truncated e = rw (e, rowed)

  pub row-value :
      {h n took : ℕ} {v : List ℕ} → found_by (mandatory_form r) s ≡ value h n took v
      → rowed lenient k at (r ∷ rs) s rows notes
      ≡ noted lenient k (fault_of r took v) notes (rowed lenient (suc k) (at + took) rs (drop took s) (rows ++ (1 ∷ (at + h) ∷ n ∷ []))) (λ fault. stopped fault k at rows notes)
  unfolding rowed
  row-value e = rw (e, rowed)
