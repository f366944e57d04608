-- A row a turn into the rest of the output: what is left to write from here on gives what all rows do.
-- Each law is the definition's own clause, at the rows from the loop's place on.
use Prim.Native.Nat.{ℕ, suc, ◌+◌, ◌≤◌, ◌<◌}
use native.Mathlib.Omega.{arith}
use native.Mathlib.Numerals.{add-one}
use mathlib.Core.Path.{◌≡◌, refl, ap, sym, ◌∙◌}
use mathlib.Core.List.{List, ◌++◌}
use mathlib.Core.Bool.{true, not}
use mathlib.Core.Option.{none}
use borrow.Author.Tests.{not-false}
use lib.ListN.{length, get_or, drop, length-append, drop_of_length-le}
use Rattle.definitions.specs.Basic.{over, over_at}
use Rattle.definitions.specs.Mandatory.{MandatoryForm, MandatoryRow, mandatory_row_at, mandatory_form, fits_mandatory, low_bits, encoded_row, rows_written}
use Rattle.definitions.specs.Values.{Octets, mandatory_width, value_in, octets_at}
use Rattle.definitions.proofs.Lists.{over_none, over-next, length-over_at}
use Rattle.rows.proofs.Steps.{mandatory-drop}
use Rattle.mandatory_writing.specs.Writes.{fits_at, misfit_in}
use Rattle.mandatory_writing.proofs.Searching.{nowhere}

-- where no row is unfit, each fits
pub fits-here : (t : List MandatoryRow) (o : Octets) (rows : List ℕ) → misfit_in t o rows 0 (length t) ≡ none → (k : ℕ) → k < length t
    → fits_mandatory (mandatory_form (mandatory_row_at t k)) (value_in mandatory_width rows k).source (octets_at o (value_in mandatory_width rows k)) ≡ true
unfolding fits_at
fits-here t o rows e k h = not-false (fits_at t o rows k) (nowhere (λ j. not (fits_at t o rows j)) 0 (length t) e k (omega arith) (omega arith))

-- the rows from k on, written from here on, leave what all of them leave
pub record Laying (t : List MandatoryRow) (o : Octets) (rows out₀ : List ℕ) (k at low : ℕ) (out : List ℕ) : Type 0 where
  pub within : k ≤ length t
  pub half : low ≤ 15
  pub size : length out ≡ length out₀
  pub room : at + length (rows_written o rows k low (drop k t)) ≤ length out
  pub writes : over_at at (rows_written o rows k low (drop k t)) out ≡ over (rows_written o rows 0 0 t) out₀

module _ (t : List MandatoryRow) (o : Octets) (rows out₀ : List ℕ) where
  pub laying : length (rows_written o rows 0 0 t) ≤ length out₀ → Laying t o rows out₀ 0 0 0 out₀
  unfolding over_at
  laying h = record { within = omega arith; half = omega arith; size = refl; room = omega arith; writes = refl }

  module _ (k at low : ℕ) (out : List ℕ) (i : Laying t o rows out₀ k at low out) where
    pub laid-all : length t ≤ k → out ≡ over (rows_written o rows 0 0 t) out₀
    unfolding rows_written
    laid-all h = sym (over_none at out) ∙ rw (drop_of_length-le t {i = k} h) at i.writes

    module _ (h : k < length t) where
      abbrev row : List ℕ
      row = encoded_row (mandatory_form (mandatory_row_at t k)) low (value_in mandatory_width rows k).source (octets_at o (value_in mandatory_width rows k))

      abbrev bits : ℕ
      bits = low_bits (get_or (octets_at o (value_in mandatory_width rows k)) 0 0)

      abbrev rest : List ℕ
      rest = rows_written o rows (suc k) bits (drop (suc k) t)

      front : rows_written o rows k low (drop k t) ≡ row ++ rest
      unfolding rows_written
      front = rw (mandatory-drop t k h)

      long : at + (length row + length rest) ≤ length out
      long = rw (front, length-append row rest) at i.room

      pub row_room : at + length row ≤ length out
      row_room = omega (arith, long)

      pub laid_one : {out' : List ℕ} {low' : ℕ} → out' ≡ over_at at row out → low' ≡ bits → low' ≤ 15 → Laying t o rows out₀ (k + 1) (at + length row) low' out'
      laid_one {out'} {low'} q e b =
          let s : length out' ≡ length out = ap length q ∙ length-over_at at row out row_room in
          let w : over_at (at + length row) rest out' ≡ over (rows_written o rows 0 0 t) out₀ = rw q (over-next at row rest out row_room ∙ rw front at i.writes) in
          record {
            within = omega arith;
            half = b;
            size = s ∙ i.size;
            room = rw (add-one k, e) (omega (arith, long));
            writes = rw (add-one k, e) w;
          }

-- a row as the code has it: its form, source and octets
pub row_is : {f f' : MandatoryForm} {x x' : ℕ} {s s' : List ℕ} (low : ℕ) → f ≡ f' → x ≡ x' → s ≡ s' → encoded_row f low x s ≡ encoded_row f' low x' s'
row_is low a b d = cc

pub fits-is : {f f' : MandatoryForm} {x x' : ℕ} {s s' : List ℕ} → f ≡ f' → x ≡ x' → s ≡ s' → fits_mandatory f x s ≡ fits_mandatory f' x' s'
fits-is a b d = cc
