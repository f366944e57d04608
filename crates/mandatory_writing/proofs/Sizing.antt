-- The rows' sizes, added up row by row, are the length of what is written; a value is no longer than its octets.
-- By induction on the rows.
use Prim.Native.Nat.{ℕ, zero, suc, ◌+◌, ◌*◌, ◌≤◌, ◌<◌}
use native.Mathlib.Omega.{arith}
use native.Mathlib.Numerals.{add-one}
use mathlib.Core.Path.{◌≡◌, refl, ap₂, ◌∙◌}
use mathlib.Core.List.{List, [], ◌∷◌}
use lib.ListN.{length, get_or, drop, length-take, length-drop, length-append, drop_of_length-le}
use Rattle.definitions.specs.Mandatory.{MandatoryRow, mandatory_row_at, mandatory_form, low_bits, encoded_row, rows_written}
use Rattle.definitions.specs.Values.{Octets, Value, mandatory_width, value_in, source_of, octets_at}
use Rattle.rows.proofs.Steps.{mandatory-drop}
use Rattle.values.specs.Rows.{sources_of}
use Rattle.mandatory_writing.specs.Writes.{Short, size_at, size_from}
use Rattle.mandatory_writing.proofs.Encoding.{encoded-size, size-most}

pub value-short : (received set : List ℕ) (v : Value) → Short received set → length (octets_at (sources_of received set) v) ≤ 65535
unfolding octets_at source_of
value-short received set v h = let s = source v.source in simp (length-take, length-drop) (omega arith)
  where
    source : (n : ℕ) → length (source_of (sources_of received set) n) ≤ 65535
    source zero = omega arith
    source (suc zero) = h.received-short
    source (suc (suc n)) = h.set-short

pub size-short : (received set rows : List ℕ) (r : MandatoryRow) (k : ℕ) → Short received set → size_at r (sources_of received set) rows k ≤ 65537
unfolding size_at
size-short received set rows r k h = omega (arith, value-short received set (value_in mandatory_width rows k) h, size-most (mandatory_form r) (length (octets_at (sources_of received set) (value_in mandatory_width rows k))))

pub written-size : (o : Octets) (rows : List ℕ) (k low : ℕ) (rs : List MandatoryRow) → length (rows_written o rows k low rs) ≡ size_from o rows k rs
unfolding rows_written size_from size_at
written-size o rows k low [] = refl
written-size o rows k low (r ∷ rs) =
    length-append (encoded_row (mandatory_form r) low (value_in mandatory_width rows k).source (octets_at o (value_in mandatory_width rows k))) (rows_written o rows (suc k) (low_bits (get_or (octets_at o (value_in mandatory_width rows k)) 0 0)) rs)
    ∙ ap₂ (λ (a b : ℕ). a + b) (encoded-size (mandatory_form r) low (value_in mandatory_width rows k).source (octets_at o (value_in mandatory_width rows k))) (written-size o rows (suc k) (low_bits (get_or (octets_at o (value_in mandatory_width rows k)) 0 0)) rs)

-- the rows from k on, added up from here on, give the size of all
pub record Adding (t : List MandatoryRow) (o : Octets) (rows : List ℕ) (k size : ℕ) : Type 0 where
  pub within : k ≤ length t
  pub small : size ≤ 65537 * k
  pub adds : size + size_from o rows k (drop k t) ≡ size_from o rows 0 t

module _ (t : List MandatoryRow) (o : Octets) (rows : List ℕ) where
  pub adding : Adding t o rows 0 0
  adding = record { within = omega arith; small = omega arith; adds = omega arith }

  module _ (k size : ℕ) (i : Adding t o rows k size) where
    pub added-all : length t ≤ k → size ≡ size_from o rows 0 t
    unfolding size_from
    added-all h =
        let e : size + 0 ≡ size_from o rows 0 t = rw (drop_of_length-le t {i = k} h) at i.adds in
        omega arith

    pub added-one : k < length t → size_at (mandatory_row_at t k) o rows k ≤ 65537 → Adding t o rows (k + 1) (size + size_at (mandatory_row_at t k) o rows k)
    unfolding size_from
    added-one h l =
        let e : size + (size_at (mandatory_row_at t k) o rows k + size_from o rows (suc k) (drop (suc k) t)) ≡ size_from o rows 0 t = rw (mandatory-drop t k h) at i.adds in
        record { within = omega arith; small = omega (arith, i.small); adds = rw (add-one k) (omega arith) }
