-- The rows of a lent table by their numbers: which numbers row k is made of, and how many rows there are; the index of a table.
-- By induction on the count that bounds the recursion, once for every count that is large enough; the index by its entries.
use Prim.Native.Nat.{ℕ, zero, suc, ◌+◌, ◌-◌, ◌*◌, ◌/◌, ◌≤◌, ◌<◌, min}
use native.Mathlib.Omega.{arith}
use mathlib.Core.Path.{◌≡◌, refl, ap, sym, ◌∙◌}
use mathlib.Core.List.{List, [], ◌∷◌, ◌++◌}
use mathlib.Core.Logic.{◌⊎◌, inl, inr, ⊎_elim}
use mathlib.Core.Option
use mathlib.Core.Option.{Option, none, some}
use mathlib.Core.Bool.{Bool, true, false, ◌&&◌}
use native.Mathlib.Nat.{suc-add, add-suc, add-zero, zero-add}
use lib.Dec.{eqb, ltb, leb}
use borrow.Author.Tests.{ltb-true, ltb-false, leb-true, leb-false, eq-eqb, ne_eqb}
use lib.ListN.{length, get_or, take, drop, length-drop, length-take, get_or-eq_default}
use lib.Seq.{drop-drop, drop-nil, get_or-take, get_or-drop}
use Rattle.definitions.specs.Rows.{Row, Form, half, fixed, tlv, tlv-e, width, row_of, rows_f, rows_of, row_at, ieis, form, form_of, first_iei, good_row, most_places, first_bad_from, first_bad, place_of, iei_of, no_place, index_entry, index_from, index, place_in}
use Rattle.definitions.specs.Basic.{pick, among}
use Rattle.definitions.proofs.RowLaws.{Bears, both, listed, passes, placed_at}
use Rattle.definitions.specs.Mandatory.{MandatoryRow, lv-e, mandatory_rows_f, mandatory_rows_of, mandatory_row_at, mandatory_form_of}

-- a number past the end
pub past : (n : ℕ) (s : List ℕ) (k : ℕ) → length s ≤ n + k → get_or (drop n s) k 0 ≡ 0
past n s k h = get_or-drop n s k 0 ∙ get_or-eq_default s 0 h

-- ---- optional rows

row_at_f : (f : ℕ) (s : List ℕ) (k : ℕ) → length s ≤ f → row_at (rows_f f s) k ≡ row_of (drop (10 * k) s)
unfolding rows_f row_at row_of
row_at_f zero [] k h = ap row_of (sym (drop-nil (10 * k)))
row_at_f zero (x ∷ xs) k h = absurd (omega arith)
row_at_f (suc f) [] k h = ap row_of (sym (drop-nil (10 * k)))
row_at_f (suc f) (x ∷ xs) zero h = refl
row_at_f (suc f) (x ∷ xs) (suc k) h =
    let e : 10 + 10 * k ≡ 10 * suc k = omega arith in
    row_at_f f (drop width (x ∷ xs)) k (simp length-drop (omega arith)) ∙ ap row_of (drop-drop (10 * k) 10 (x ∷ xs) ∙ ap (λ (n : ℕ). drop n (x ∷ xs)) e)

-- row k is made of the numbers from 10 * k on; past the end it has none
pub row_at_lem : (s : List ℕ) (k : ℕ) → row_at (rows_of s) k ≡ row_of (drop (10 * k) s)
unfolding rows_of
row_at_lem s k = row_at_f (length s) s k (omega arith)

row-count_f : (f : ℕ) (s : List ℕ) → length s ≤ f → length (rows_f f s) ≡ (length s + 9) / 10
unfolding rows_f
row-count_f zero [] h = refl
row-count_f zero (x ∷ xs) h = absurd (omega arith)
row-count_f (suc f) [] h = refl
row-count_f (suc f) (x ∷ xs) h =
    let l : length (drop width (x ∷ xs)) ≡ suc (length xs) - 10 = length-drop width (x ∷ xs) in
    let r : length (rows_f f (drop width (x ∷ xs))) ≡ (length (drop width (x ∷ xs)) + 9) / 10 = row-count_f f (drop width (x ∷ xs)) (omega arith) in
    omega arith

pub row_count : (s : List ℕ) → length (rows_of s) ≡ (length s + 9) / 10
unfolding rows_of
row_count s = row-count_f (length s) s (omega arith)

-- the IEIs of row k: how many, and the one at a number
pub iei-count : (s : List ℕ) (k : ℕ) → length (ieis (row_at (rows_of s) k)) ≡ min (get_or s (10 * k) 0) (min 4 (length s - 10 * k - 1))
unfolding ieis row_of
iei-count s k =
    let z : 10 * k + 0 ≡ 10 * k = omega arith in
    rw (row_at_lem s k) (simp (length-take, length-drop, get_or-drop, z))

pub count-is : (s : List ℕ) (k : ℕ) → (row_at (rows_of s) k).count ≡ get_or s (10 * k) 0
unfolding row_of
count-is s k =
    let z : 10 * k + 0 ≡ 10 * k = omega arith in
    ap (λ (r : Row). r.count) (row_at_lem s k) ∙ get_or-drop (10 * k) s 0 0 ∙ ap (λ (n : ℕ). get_or s n 0) z

pub iei-at : (s : List ℕ) (k j : ℕ) → j < get_or s (10 * k) 0 → j < 4 → get_or (ieis (row_at (rows_of s) k)) j 0 ≡ get_or s (10 * k + (1 + j)) 0
unfolding ieis row_of
iei-at s k j h g =
    let z : 10 * k + 0 ≡ 10 * k = omega arith in
    let c : j < get_or (drop (10 * k) s) 0 0 = rw (get_or-drop (10 * k) s 0 0, z) h in
    let d : List ℕ = drop (10 * k) s in
    ap (λ (r : Row). get_or (ieis r) j 0) (row_at_lem s k)
    ∙ get_or-take (get_or d 0 0) (take 4 (drop 1 d)) j 0 c ∙ get_or-take 4 (drop 1 d) j 0 g ∙ get_or-drop 1 d j 0 ∙ get_or-drop (10 * k) s (1 + j) 0

pub form-long : (c n : ℕ) → 3 ≤ c → form_of c n ≡ tlv-e
unfolding form_of
form-long zero n h = absurd (omega arith)
form-long (suc zero) n h = absurd (omega arith)
form-long (suc (suc zero)) n h = absurd (omega arith)
form-long (suc (suc (suc c))) n h = refl

-- ---- mandatory rows

-- the row that the first four numbers are; a number that is not there counts as 0
abbrev pub mandatory_row_of : List ℕ → MandatoryRow
mandatory_row_of s = record { code = get_or s 0 0; size = get_or s 1 0; least = get_or s 2 0; kinds = get_or s 3 0 }

mandatory-at_f : (f : ℕ) (s : List ℕ) (k : ℕ) → length s ≤ f → mandatory_row_at (mandatory_rows_f f s) k ≡ mandatory_row_of (drop (4 * k) s)
unfolding mandatory_rows_f mandatory_row_at
mandatory-at_f zero [] k h = ap mandatory_row_of (sym (drop-nil (4 * k)))
mandatory-at_f zero (x ∷ xs) k h = absurd (omega arith)
mandatory-at_f (suc f) [] k h = ap mandatory_row_of (sym (drop-nil (4 * k)))
mandatory-at_f (suc f) (x ∷ xs) zero h = refl
mandatory-at_f (suc f) (x ∷ xs) (suc k) h =
    let e : 4 + 4 * k ≡ 4 * suc k = omega arith in
    mandatory-at_f f (drop 3 xs) k (simp length-drop (omega arith)) ∙ ap mandatory_row_of (drop-drop (4 * k) 4 (x ∷ xs) ∙ ap (λ (n : ℕ). drop n (x ∷ xs)) e)

pub mandatory-at : (s : List ℕ) (k : ℕ) → mandatory_row_at (mandatory_rows_of s) k ≡ mandatory_row_of (drop (4 * k) s)
unfolding mandatory_rows_of
mandatory-at s k = mandatory-at_f (length s) s k (omega arith)

mandatory-count_f : (f : ℕ) (s : List ℕ) → length s ≤ f → length (mandatory_rows_f f s) ≡ (length s + 3) / 4
unfolding mandatory_rows_f
mandatory-count_f zero [] h = refl
mandatory-count_f zero (x ∷ xs) h = absurd (omega arith)
mandatory-count_f (suc f) [] h = refl
mandatory-count_f (suc f) (x ∷ xs) h =
    let l : length (drop 3 xs) ≡ length xs - 3 = length-drop 3 xs in
    let r : length (mandatory_rows_f f (drop 3 xs)) ≡ (length (drop 3 xs) + 3) / 4 = mandatory-count_f f (drop 3 xs) (omega arith) in
    omega arith

pub mandatory-count : (s : List ℕ) → length (mandatory_rows_of s) ≡ (length s + 3) / 4
unfolding mandatory_rows_of
mandatory-count s = mandatory-count_f (length s) s (omega arith)

pub mandatory-form-long : (c n : ℕ) → 4 ≤ c → mandatory_form_of c n ≡ lv-e
unfolding mandatory_form_of
mandatory-form-long zero n h = absurd (omega arith)
mandatory-form-long (suc zero) n h = absurd (omega arith)
mandatory-form-long (suc (suc zero)) n h = absurd (omega arith)
mandatory-form-long (suc (suc (suc zero))) n h = absurd (omega arith)
mandatory-form-long (suc (suc (suc (suc c)))) n h = refl

-- ---- the index

from-length : (t : List Row) (k n : ℕ) → length (index_from t k n) ≡ n
unfolding index_from
from-length t k zero = refl
from-length t k (suc n) = ap suc (from-length t (suc k) n)

pub index-length : (t : List Row) → length (index t) ≡ 256
unfolding index
index-length t = from-length t 0 256

from_at : (t : List Row) (k n x d : ℕ) → x < n → get_or (index_from t k n) x d ≡ index_entry t (k + x)
unfolding index_from
from_at t k zero x d h = absurd (omega arith)
from_at t k (suc n) zero d h = ap (index_entry t) (sym (add-zero k))
from_at t k (suc n) (suc x) d h = from_at t (suc k) n x d (omega arith) ∙ ap (index_entry t) (suc-add k x ∙ sym (add-suc k x))

pub index_at : (t : List Row) (x d : ℕ) → x < 256 → get_or (index t) x d ≡ index_entry t x
unfolding index
index_at t x d h = from_at t 0 256 x d h ∙ ap (index_entry t) (zero-add x)

-- a table that passes has at most 128 places
few-from : (k : ℕ) (used : List ℕ) (t : List Row) → first_bad_from k used t ≡ none → length t ≡ 0 ⊎ (k + length t ≤ 128)
unfolding first_bad_from
few-from k used [] p = inl refl
few-from k used (r ∷ rs) p = go (ltb k most_places && good_row used r) refl p (few-from (suc k) (ieis r ++ used) rs)
  where
    go : (b : Bool) → (ltb k most_places && good_row used r) ≡ b → pick b (first_bad_from (suc k) (ieis r ++ used) rs) (some k) ≡ none
        → (first_bad_from (suc k) (ieis r ++ used) rs ≡ none → length rs ≡ 0 ⊎ (suc k + length rs ≤ 128)) → length (r ∷ rs) ≡ 0 ⊎ (k + length (r ∷ rs) ≤ 128)
    go false e p n = let z : ◌≡◌ {A = ℕ} 0 1 = cc in absurd (omega arith)
    go true e p n =
        let h : k < 128 = ltb-true k most_places (both (ltb k most_places) (good_row used r) e).0 in
        inr (⊎_elim (λ z. omega arith) (λ z. omega arith) (n p))

pub few-places : (t : List Row) → first_bad t ≡ none → length t ≤ 128
unfolding first_bad
few-places t p = ⊎_elim (λ z. omega arith) (λ z. omega arith) (few-from 0 [] t p)

-- its index says of each IEI what the table says: the place, or none
pub index-place : (t : List Row) → first_bad t ≡ none → (iei : ℕ) → iei < 256 → place_in (index t) iei ≡ place_of t iei
unfolding place_in index_entry
index-place t p iei h = rw (index_at t iei no_place h) (go (place_of t iei) refl)
  where
    go : (o : Option ℕ) → place_of t iei ≡ o → pick (eqb (min no_place (Option.get_or o no_place)) no_place) none (some (min no_place (Option.get_or o no_place))) ≡ o
    go none e = refl
    go (some k) e =
        let l : k < length t = (listed t iei k p e).inside in
        let f : length t ≤ 128 = few-places t p in
        let m : min no_place k ≡ k = omega arith in
        rw (m, ne_eqb k no_place (omega arith))

-- an IEI that a row lists is an octet
listed-octet : (f : Form) (iei : ℕ) → Bears f iei → iei < 256
listed-octet half iei b = omega arith
listed-octet (fixed n) iei b = omega arith
listed-octet tlv iei b = omega arith
listed-octet tlv-e iei b = omega arith

-- so that its index says the same of any number
pub index_same : (t : List Row) → first_bad t ≡ none → (iei : ℕ) → place_in (index t) iei ≡ place_of t iei
unfolding place_in
index_same t p iei = by (leb 256 iei) refl
  where
    nowhere : 256 ≤ iei → (o : Option ℕ) → place_of t iei ≡ o → none ≡ o
    nowhere h none e = refl
    nowhere h (some k) e = absurd (omega (arith, listed-octet (form (row_at t k)) iei (listed t iei k p e).formed))

    by : (b : Bool) → leb 256 iei ≡ b → place_in (index t) iei ≡ place_of t iei
    by false e = index-place t p iei (leb-false 256 iei e)
    by true e =
        let h : 256 ≤ iei = leb-true 256 iei e in
        let g : get_or (index t) iei no_place ≡ no_place = get_or-eq_default (index t) no_place (omega (arith, index-length t)) in
        rw g (nowhere h (place_of t iei) refl)

-- the IEI of an octet is an octet
pub iei-octet : (x : ℕ) → x < 256 → iei_of x < 256
unfolding iei_of
iei-octet x h = go (leb 128 x)
  where
    go : (b : Bool) → pick b (x / 16 * 16) x < 256
    go true = omega arith
    go false = h

-- the first IEI of a place, in a table that passes, is one of its form
first-among : (s : List ℕ) → 1 ≤ length s → among (get_or s 0 0) s ≡ true
unfolding among
first-among [] h = absurd (omega arith)
first-among (x ∷ xs) h = rw (eq-eqb x x refl)

module _ (table : List ℕ) (k : ℕ) (p : first_bad (rows_of table) ≡ none) (h : k < length (rows_of table)) where
  first-listed : among (first_iei (rows_of table) k) (ieis (row_at (rows_of table) k)) ≡ true
  unfolding first_iei row_of
  first-listed =
      let g = passes (rows_of table) k p h in
      let w : 10 * k + 9 < length table = by (ltb (10 * k + 9) (length table)) refl g.kind in
      let c : 1 ≤ get_or table (10 * k) 0 = omega (arith, g.listing, count-is table k) in
      first-among (ieis (row_at (rows_of table) k)) (omega (arith, iei-count table k))
    where
      by : (b : Bool) → ltb (10 * k + 9) (length table) ≡ b → 1 ≤ (row_at (rows_of table) k).kinds → 10 * k + 9 < length table
      by true e g = ltb-true (10 * k + 9) (length table) e
      by false e g =
          let z : (row_at (rows_of table) k).kinds ≡ 0 = ap (λ (r : Row). r.kinds) (row_at_lem table k) ∙ past (10 * k) table 9 (ltb-false (10 * k + 9) (length table) e) in
          absurd (omega arith)

  pub first-bears : Bears (form (row_at (rows_of table) k)) (first_iei (rows_of table) k)
  first-bears = (passes (rows_of table) k p h).each _ first-listed

  -- and its place is that one
  pub first-place : place_of (rows_of table) (first_iei (rows_of table) k) ≡ some k
  first-place = placed_at (rows_of table) k (first_iei (rows_of table) k) p h first-listed
