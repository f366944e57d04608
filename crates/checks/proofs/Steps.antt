-- One turn of each loop over rows: what is left to do from here on is the turn and what is left after it.
-- Each is the definition's own clause, at the list from the loop's place on.
use Prim.Native.Nat.{ℕ, zero, suc, ◌+◌, ◌≤◌, ◌<◌}
use native.Mathlib.Omega.{arith}
use native.Mathlib.Numerals.{add-one}
use mathlib.Core.Path.{◌≡◌, refl, sym, ◌∙◌}
use mathlib.Core.List.{List, [], ◌∷◌}
use mathlib.Core.Bool.{Bool, true, false, ◌&&◌, ◌||◌, not}
use mathlib.Core.Option.{Option, none, some}
use lib.ListN.{length, drop, drop_of_length-le}
use lib.Dec.{eqb, ltb, leb}
use Rattle.definitions.specs.Basic.{pick, most_kinds}
use Rattle.definitions.specs.Rows.{Row, row_at, most_places}
use Rattle.definitions.specs.Mandatory.{MandatoryRow, mandatory_row_at, is_half, next_is, good_mandatory, most_mandatory, first_bad_mandatory_from, first_bad_mandatory}
use Rattle.rows.proofs.Steps.{row-front, mandatory-drop}
use Rattle.indexing.specs.Marks.{enter_row, indexed}
use Rattle.indexing.proofs.Steps.{Filling, filled-one, filled-all}
use Rattle.checks.specs.Passes.{passes, bad_from, plain_in_range, paired}
use borrow.Author.Tests.{lt-ltb, le-ltb}

-- ---- the rows of a table

-- what checking all rows from a list of entries on answers and leaves
abbrev pub Told : List Row → List ℕ → Option ℕ → List ℕ → Type 0
Told rs ix₀ o ix = (o ≡ bad_from 0 ix₀ rs) × (bad_from 0 ix₀ rs ≡ none → ix ≡ indexed 0 ix₀ rs)

-- the rows from k on, checked from here on, give what all of them give
pub record Checking (rs : List Row) (ix₀ : List ℕ) (k : ℕ) (ix : List ℕ) : Type 0 where
  pub filling : Filling rs (indexed 0 ix₀ rs) (length ix₀) k ix
  pub finds : bad_from k ix (drop k rs) ≡ bad_from 0 ix₀ rs

module _ (rs : List Row) (ix₀ : List ℕ) where
  pub checking : Checking rs ix₀ 0 ix₀
  checking = record { filling = record { within = omega arith; size = refl; fills = refl }; finds = refl }

  module _ (k : ℕ) (ix : List ℕ) (i : Checking rs ix₀ k ix) where
    bad-step : k < length rs → bad_from 0 ix₀ rs ≡ pick (ltb k most_places && passes k (row_at rs k) ix) (bad_from (k + 1) (enter_row k (row_at rs k) ix) (drop (k + 1) rs)) (some k)
    unfolding bad_from
    bad-step h = sym i.finds ∙ rw (row-front rs k h, add-one k)

    pub checked-one : k < length rs → k < most_places → passes k (row_at rs k) ix ≡ true → {ix' : List ℕ} → ix' ≡ enter_row k (row_at rs k) ix → Checking rs ix₀ (k + 1) ix'
    checked-one h l p e =
        record {
          filling = filled-one rs (indexed 0 ix₀ rs) (length ix₀) k ix i.filling h e;
          finds = rw e (sym (rw (lt-ltb k most_places l, p) at (bad-step h)));
        }

    bad-here : k < length rs → (ltb k most_places && passes k (row_at rs k) ix) ≡ false → (ix' : List ℕ) → Told rs ix₀ (some k) ix'
    bad-here h p ix' =
        let e : bad_from 0 ix₀ rs ≡ some k = rw p at (bad-step h) in
        (sym e, λ q. let z : ◌≡◌ {A = ℕ} 0 1 = cc in absurd (omega arith))

    pub too_many : k < length rs → most_places ≤ k → Told rs ix₀ (some k) ix
    too_many h l = bad-here h (rw (le-ltb k most_places l)) ix

    pub bad-row : k < length rs → k < most_places → passes k (row_at rs k) ix ≡ false → (ix' : List ℕ) → Told rs ix₀ (some k) ix'
    bad-row h l p ix' = bad-here h (rw (lt-ltb k most_places l, p)) ix'

    pub checked-all : length rs ≤ k → Told rs ix₀ none ix
    unfolding bad_from
    checked-all h = (rw (drop_of_length-le rs {i = k} h) at i.finds, λ q. filled-all rs (indexed 0 ix₀ rs) (length ix₀) k ix i.filling h)

-- ---- mandatory rows

-- whether the next row is a high half: a row that is not there is none
pub next-high : (rs : List MandatoryRow) (k : ℕ) → next_is 1 (drop k rs) ≡ eqb (mandatory_row_at rs k).code 1
unfolding next_is mandatory_row_at
next-high [] zero = refl
next-high [] (suc k) = refl
next-high (r ∷ rs) zero = refl
next-high (r ∷ rs) (suc k) = next-high rs k

pub good-parts : (after : Bool) (r : MandatoryRow) (rs : List MandatoryRow) (next : ℕ) → next_is 1 rs ≡ eqb next 1
    → (plain_in_range r && paired after r.code next) ≡ good_mandatory after r rs
unfolding good_mandatory plain_in_range paired
good-parts after r rs next e =
    rw e
    (six (leb r.code 4) (not (eqb r.code 2) || (leb 1 r.size && leb r.size 255)) (leb r.least 65537) (not (is_half r) || eqb r.least 0)
    (leb 1 r.kinds) (leb r.kinds (most_kinds (is_half r))) ((not (eqb r.code 0) || eqb next 1) && (not (eqb r.code 1) || after)))
  where
    six : (a b c d e f g : Bool) → ((a && (b && (c && (d && (e && f))))) && g) ≡ (a && (b && (c && (d && (e && (f && g))))))
    six false b c d e f g = refl
    six true false c d e f g = refl
    six true true false d e f g = refl
    six true true true false e f g = refl
    six true true true true false f g = refl
    six true true true true true f g = refl

-- the rows from k on, checked from here on, give what all of them give
pub record Pairing (rs : List MandatoryRow) (k : ℕ) (after : Bool) : Type 0 where
  pub within : k ≤ length rs
  pub finds : first_bad_mandatory_from k after (drop k rs) ≡ first_bad_mandatory rs

pub pairing : (rs : List MandatoryRow) → Pairing rs 0 false
unfolding first_bad_mandatory
pairing rs = record { within = omega arith; finds = refl }

module _ (rs : List MandatoryRow) (k : ℕ) (after : Bool) (i : Pairing rs k after) where
  abbrev row : MandatoryRow
  row = mandatory_row_at rs k

  step : k < length rs
      → first_bad_mandatory rs ≡ pick (ltb k most_mandatory && good_mandatory after row (drop (suc k) rs)) (first_bad_mandatory_from (suc k) (eqb row.code 0) (drop (suc k) rs)) (some k)
  unfolding first_bad_mandatory_from
  step h = sym i.finds ∙ rw (mandatory-drop rs k h)

  pub paired-one : k < length rs → k < most_mandatory → good_mandatory after row (drop (suc k) rs) ≡ true → {next : Bool} → next ≡ eqb row.code 0 → Pairing rs (k + 1) next
  paired-one h l g e = record { within = omega arith; finds = rw (e, add-one k) (sym (rw (lt-ltb k most_mandatory l, g) at (step h))) }

  pub too-many-mandatory : k < length rs → most_mandatory ≤ k → some k ≡ first_bad_mandatory rs
  too-many-mandatory h l = sym (rw (le-ltb k most_mandatory l) at (step h))

  pub bad-mandatory : k < length rs → k < most_mandatory → good_mandatory after row (drop (suc k) rs) ≡ false → some k ≡ first_bad_mandatory rs
  bad-mandatory h l g = sym (rw (lt-ltb k most_mandatory l, g) at (step h))

  pub paired-all : length rs ≤ k → none ≡ first_bad_mandatory rs
  unfolding first_bad_mandatory_from
  paired-all h = rw (drop_of_length-le rs {i = k} h) at i.finds
