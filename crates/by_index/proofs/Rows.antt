-- The rows of a table under an index: an IEI has the place that the index has for it, and a place the table's numbers.
-- By induction on the IEIs and on the rows.
use Prim.Native.Nat.{ℕ, zero, suc, ◌+◌, ◌≤◌, ◌<◌}
use native.Mathlib.Omega.{arith}
use mathlib.Core.Path.{◌≡◌, refl, ap, sym, ◌∙◌}
use mathlib.Core.List.{List, ◌∷◌}
use mathlib.Core.Bool.{Bool, true, false, ◌||◌}
use mathlib.Core.Option.{none, some}
use borrow.Author.Tests.{eq-eqb, ne_eqb, eqb-true, eqb-false, ltb-true, ltb-false}
use lib.ListN.{get_or}
use lib.Seq.{take-length}
use lib.Dec.{eqb, ltb}
use Rattle.definitions.specs.Basic.{pick, among}
use Rattle.definitions.specs.Rows.{ieis, place_from, place_of, row_at}
use Rattle.rows.specs.Numbers.{numbers_at}
use Rattle.by_index.specs.ByIndex.{ieis_from, first_by, row_by, rows_from, rows_by}

-- ---- the IEIs of a row

module _ (index : List ℕ) (k : ℕ) where
  not-below : (i n x : ℕ) → x < i → among x (ieis_from index k i n) ≡ false
  unfolding ieis_from among
  not-below i zero x h = refl
  not-below i (suc n) x h = by (eqb (get_or index i 0) k) (not-below (suc i) n x (omega arith))
    where
      by : (b : Bool) → among x (ieis_from index k (suc i) n) ≡ false → among x (pick b (i ∷ ieis_from index k (suc i) n) (ieis_from index k (suc i) n)) ≡ false
      by true r = rw (ne_eqb x i (λ e. omega arith)) r
      by false r = r

  listed-from : (i n x : ℕ) → i ≤ x → x < i + n → among x (ieis_from index k i n) ≡ eqb (get_or index x 0) k
  unfolding ieis_from among
  listed-from i zero x h g = absurd (omega arith)
  listed-from i (suc n) x h g = by (eqb x i) refl (listed-from (suc i) n x)
    where
      here : (b : Bool) → among i (pick b (i ∷ ieis_from index k (suc i) n) (ieis_from index k (suc i) n)) ≡ b
      here true = rw (eq-eqb i i refl)
      here false = not-below (suc i) n i (omega arith)

      later : (b : Bool) → eqb x i ≡ false → among x (pick b (i ∷ ieis_from index k (suc i) n) (ieis_from index k (suc i) n)) ≡ among x (ieis_from index k (suc i) n)
      later true e = rw e
      later false e = refl

      by : (b : Bool) → eqb x i ≡ b → (suc i ≤ x → x < suc i + n → among x (ieis_from index k (suc i) n) ≡ eqb (get_or index x 0) k)
          → among x (pick (eqb (get_or index i 0) k) (i ∷ ieis_from index k (suc i) n) (ieis_from index k (suc i) n)) ≡ eqb (get_or index x 0) k
      by true e r = let q : x ≡ i = eqb-true x i e in rw q (here (eqb (get_or index i 0) k))
      by false e r = let q = eqb-false x i e in later (eqb (get_or index i 0) k) e ∙ r (omega arith) (omega arith)

module _ (table index : List ℕ) where
  pub row-lists : (k x : ℕ) → x < 256 → among x (ieis (row_by table index k)) ≡ eqb (get_or index x 0) k
  unfolding row_by ieis among first_by
  row-lists k x h =
      ap (among x) (take-length (first_by index k f ∷ ieis_from index k 0 256))
      ∙ by (eqb (get_or index f 0) k) refl (listed-from index k 0 256 x (omega arith) (omega arith))
    where
      f : ℕ
      f = (numbers_at table k).first

      first : (b : Bool) → eqb x f ≡ b → eqb (get_or index f 0) k ≡ true → among x (ieis_from index k 0 256) ≡ eqb (get_or index x 0) k → (b || among x (ieis_from index k 0 256)) ≡ eqb (get_or index x 0) k
      first true e q r = let z : x ≡ f = eqb-true x f e in sym (rw z q)
      first false e q r = r

      by : (b : Bool) → eqb (get_or index f 0) k ≡ b → among x (ieis_from index k 0 256) ≡ eqb (get_or index x 0) k
          → (eqb x (pick b f 256) || among x (ieis_from index k 0 256)) ≡ eqb (get_or index x 0) k
      by true q r = first (eqb x f) refl q r
      by false q r = rw (ne_eqb x 256 (λ e. omega arith)) r

  -- ---- the place of an IEI

  found_from : (k n x : ℕ) → x < 256 → k ≤ get_or index x 0 → get_or index x 0 < k + n → place_from k (rows_from table index k n) x ≡ some (get_or index x 0)
  unfolding rows_from place_from
  found_from k zero x h l g = absurd (omega arith)
  found_from k (suc n) x h l g = rw (row-lists k x h) (by (eqb (get_or index x 0) k) refl (found_from (suc k) n x h))
    where
      by : (b : Bool) → eqb (get_or index x 0) k ≡ b → (suc k ≤ get_or index x 0 → get_or index x 0 < suc k + n → place_from (suc k) (rows_from table index (suc k) n) x ≡ some (get_or index x 0))
          → pick b (some k) (place_from (suc k) (rows_from table index (suc k) n) x) ≡ some (get_or index x 0)
      by true e r = ap some (sym (eqb-true (get_or index x 0) k e))
      by false e r = let q = eqb-false (get_or index x 0) k e in r (omega arith) (omega arith)

  missed-from : (k n x : ℕ) → x < 256 → k + n ≤ get_or index x 0 → place_from k (rows_from table index k n) x ≡ none
  unfolding rows_from place_from
  missed-from k zero x h g = refl
  missed-from k (suc n) x h g = rw (row-lists k x h, ne_eqb (get_or index x 0) k (λ e. omega arith)) (missed-from (suc k) n x h (omega arith))

  pub some-place : (x : ℕ) → x < 256 → get_or index x 0 < 128 → place_of (rows_by table index) x ≡ some (get_or index x 0)
  unfolding rows_by place_of
  some-place x h g = found_from 0 128 x h (omega arith) (omega arith)

  pub no_place : (x : ℕ) → x < 256 → 128 ≤ get_or index x 0 → place_of (rows_by table index) x ≡ none
  unfolding rows_by place_of
  no_place x h g = missed-from 0 128 x h (omega arith)

  pub entry-is : (x k : ℕ) → x < 256 → place_of (rows_by table index) x ≡ some k → k ≡ get_or index x 0
  entry-is x k h e = by (ltb (get_or index x 0) 128) refl
    where
      by : (b : Bool) → ltb (get_or index x 0) 128 ≡ b → k ≡ get_or index x 0
      by true q = let z : some k ≡ some (get_or index x 0) = sym e ∙ some-place x h (ltb-true (get_or index x 0) 128 q) in cc
      by false q =
          let z : some k ≡ none = sym e ∙ no_place x h (ltb-false (get_or index x 0) 128 q) in
          let y : ◌≡◌ {A = ℕ} 0 1 = cc in
          absurd (omega arith)

  -- ---- the row of a place

  at_from : (j n k : ℕ) → k < n → row_at (rows_from table index j n) k ≡ row_by table index (j + k)
  unfolding rows_from row_at
  at_from j zero k h = absurd (omega arith)
  at_from j (suc n) zero h = let z : j ≡ j + 0 = omega arith in ap (row_by table index) z
  at_from j (suc n) (suc k) h = let z : suc j + k ≡ j + suc k = omega arith in at_from (suc j) n k (omega arith) ∙ ap (row_by table index) z

  pub row_at_lem : (k : ℕ) → k < 128 → row_at (rows_by table index) k ≡ row_by table index k
  unfolding rows_by
  row_at_lem k h = let z : 0 + k ≡ k = omega arith in at_from 0 128 k h ∙ ap (row_by table index) z
