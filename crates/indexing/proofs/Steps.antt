-- One turn of each loop that enters IEIs: what is left to do from here on is the turn and what is left after it.
-- Each is the definition's own clause, at the list from the loop's place on.
use Prim.Native.Nat.{ℕ, ◌+◌, ◌≤◌, ◌<◌}
use native.Mathlib.Omega.{arith}
use native.Mathlib.Numerals.{add-one}
use mathlib.Core.Path.{◌≡◌, refl, ap, sym, ◌∙◌}
use mathlib.Core.List.{List, [], ◌∷◌}
use mathlib.Core.Bool.{Bool, true, ◌&&◌, and_assoc, and-true}
use lib.ListN.{length, get_or, drop, drop_of_length-le}
use lib.Seq.{drop-cons}
use Rattle.definitions.specs.Rows.{Row, row_at, ieis, good_iei}
use Rattle.rows.proofs.Steps.{row-front}
use Rattle.indexing.specs.Marks.{free, enter, enter_all, enters, mark_of, enter_row, indexed}
use Rattle.indexing.proofs.Marking.{enter-length, all-length}

-- ---- the IEIs of a row

-- those from j on, entered from here on, give what all of them give
pub record Entering (half : Bool) (mark : ℕ) (is ix₀ : List ℕ) (j : ℕ) (ix : List ℕ) (good : Bool) : Type 0 where
  pub within : j ≤ length is
  pub size : length ix ≡ length ix₀
  pub judges : (good && enters half mark (drop j is) ix) ≡ enters half mark is ix₀
  pub fills : enter_all mark (drop j is) ix ≡ enter_all mark is ix₀

module _ (half : Bool) (mark : ℕ) (is ix₀ : List ℕ) where
  pub entering : Entering half mark is ix₀ 0 ix₀ true
  entering = record { within = omega arith; size = refl; judges = refl; fills = refl }

  pub entered-one : (j : ℕ) (ix ix' : List ℕ) (good good' : Bool) → Entering half mark is ix₀ j ix good → j < length is
      → good' ≡ (good && (good_iei half (get_or is j 0) && free ix (get_or is j 0))) → ix' ≡ enter mark (get_or is j 0) ix → Entering half mark is ix₀ (j + 1) ix' good'
  unfolding enters enter_all
  entered-one j ix ix' good good' i h g e =
      let d : drop j is ≡ get_or is j 0 ∷ drop (j + 1) is = rw (drop-cons is j 0 h, add-one j) in
      record {
        within = omega arith;
        size = ap length e ∙ enter-length mark (get_or is j 0) ix ∙ i.size;
        judges = rw (g, e, and_assoc) (rw d at i.judges);
        fills = rw e (rw d at i.fills);
      }

  pub entered_all : (j : ℕ) (ix : List ℕ) (good : Bool) → Entering half mark is ix₀ j ix good → length is ≤ j
      → (good ≡ enters half mark is ix₀) × (ix ≡ enter_all mark is ix₀)
  unfolding enters enter_all
  entered_all j ix good i h =
      let d : drop j is ≡ [] = drop_of_length-le is {i = j} h in
      (sym (and-true good) ∙ (rw d at i.judges), rw d at i.fills)

-- ---- the rows of a table

-- the rows from k on, entered from here on, give a list of entries
pub record Filling (rs : List Row) (whole : List ℕ) (n k : ℕ) (ix : List ℕ) : Type 0 where
  pub within : k ≤ length rs
  pub size : length ix ≡ n
  pub fills : indexed k ix (drop k rs) ≡ whole

module _ (rs : List Row) (whole : List ℕ) (n k : ℕ) (ix : List ℕ) (i : Filling rs whole n k ix) where
  pub filled-one : k < length rs → {ix' : List ℕ} → ix' ≡ enter_row k (row_at rs k) ix → Filling rs whole n (k + 1) ix'
  unfolding indexed
  filled-one h e =
      record {
        within = omega arith;
        size = ap length e ∙ all-length (mark_of k) (ieis (row_at rs k)) ix ∙ i.size;
        fills = rw (e, add-one k) (rw (row-front rs k h) at i.fills);
      }

  pub filled-all : length rs ≤ k → ix ≡ whole
  unfolding indexed
  filled-all h = rw (drop_of_length-le rs {i = k} h) at i.fills
