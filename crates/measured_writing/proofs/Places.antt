-- The element of a place by the numbers of its row: none of an absent one, else its value in its form; how many octets it takes, and
-- whether it fits. Each by whether the source is 0.
use Prim.Native.Nat.{ℕ, zero, suc, ◌≤◌}
use native.Mathlib.Omega.{arith}
use mathlib.Core.Path.{◌≡◌, refl, ap, sym, ◌∙◌}
use mathlib.Core.List.{List, []}
use mathlib.Core.Bool.{true, false, not}
use mathlib.Core.Option.{none}
use borrow.Author.Tests.{le-leb}
use lib.ListN.{length, length-take, length-drop}
use Rattle.definitions.specs.Rows.{Form, half, fixed, tlv, tlv-e, rows_of, row_at, form, form_of, first_bad}
use Rattle.definitions.specs.Values.{Octets, Value, value_at, present, source_of, octets_at, fits, unfit_at}
use Rattle.definitions.specs.Writing.{encoded, element_at}
use Rattle.rows.specs.Numbers.{numbers_at}
use Rattle.rows.specs.declared.columns.Numbers.{Numbers}
use Rattle.rows.proofs.WholeRows.{whole-rows}
use Rattle.values.specs.Rows.{value_of, sources_of}
use Rattle.values.specs.declared.row.ValueRow.{ValueRow}
use Rattle.measured_writing.specs.Added.{filled_of}
use Rattle.measured_writing.specs.Sizes.{takes, place_length, most_ie}

pub encoded-length : (f : Form) (iei : ℕ) (s : List ℕ) → length (encoded f iei s) ≡ takes f (length s)
unfolding encoded
encoded-length half iei s = refl
encoded-length (fixed n) iei s = omega arith
encoded-length tlv iei s = omega arith
encoded-length tlv-e iei s = omega arith

takes-most : (f : Form) (n : ℕ) → n ≤ 65535 → takes f n ≤ most_ie
takes-most half n h = omega arith
takes-most (fixed k) n h = omega arith
takes-most tlv n h = omega arith
takes-most tlv-e n h = omega arith

-- the form by the numbers of a row, of a table that passes
pub form-there : (table : List ℕ) (k : ℕ) {n : Numbers} {f : Form} → first_bad (rows_of table) ≡ none → n ≡ numbers_at table k → f ≡ form_of n.code n.size → f ≡ form (row_at (rows_of table) k)
unfolding form
form-there table k p e q = let w = whole-rows table p in q ∙ rw (e, w.code k, w.size k)

module _ (received set : List ℕ) (r : length received ≤ 65535) (s : length set ≤ 65535) where
  source-short : (source : ℕ) → length (source_of (sources_of received set) source) ≤ 65535
  unfolding source_of
  source-short zero = omega arith
  source-short (suc zero) = r
  source-short (suc (suc n)) = s

  pub octets-short : (v : Value) → length (octets_at (sources_of received set) v) ≤ 65535
  unfolding octets_at
  octets-short v = simp (length-take, length-drop) (omega (arith, source-short v.source))

module _ (table rows received set : List ℕ) (k : ℕ) (row : ValueRow) (e : value_of row ≡ value_at rows k) where
  abbrev o : Octets
  o = sources_of received set

  pub absent : row.source ≡ 0 → (iei : ℕ) → element_at (filled_of table rows received set) k iei ≡ []
  unfolding element_at present
  absent z iei = rw (← e, z)

  pub not-present : row.source ≡ 0 → present (value_at rows k) ≡ false
  unfolding present
  not-present z = rw (← e, z)

  module _ (n : row.source ≡ 0 → ⊥) where
    one : 1 ≤ row.source
    one = omega (arith, n)

    pub is-present : present (value_at rows k) ≡ true
    unfolding present
    is-present = rw (← e, le-leb 1 row.source one)

    pub there : (iei : ℕ) → element_at (filled_of table rows received set) k iei ≡ encoded (form (row_at (rows_of table) k)) iei (octets_at o (value_of row))
    unfolding element_at present
    there iei = rw (← e, le-leb 1 row.source one)

    pub unfit-there : unfit_at (rows_of table) o rows k ≡ not (fits (form (row_at (rows_of table) k)) row.source (octets_at o (value_of row)))
    unfolding unfit_at present
    unfit-there = rw (← e, le-leb 1 row.source one)

    -- what an element of a form with a value takes is what the place's takes
    pub length-there : {f : Form} {s : List ℕ} {c : ℕ} → length received ≤ 65535 → length set ≤ 65535 → c ≡ takes f (length s) → f ≡ form (row_at (rows_of table) k)
        → s ≡ octets_at o (value_of row) → (c ≡ place_length (filled_of table rows received set) k) × (c ≤ most_ie)
    unfolding place_length
    length-there {f = f} {s = s} a b c p q =
        let l : length s ≤ 65535 = rw q (octets-short received set a b (value_of row)) in (
          c ∙ sym (encoded-length f 0 s) ∙ rw (p, q) (ap length (sym (there 0))),
          omega (arith, c, takes-most f (length s) l),
        )
