-- The place of an IEI by an index: the index has the table's own entries, and one that is 255 is no place.
-- By the definition of an entry; a table that passes has at most 128 places.
use Prim.Native.Nat.{ℕ, ◌<◌, min}
use native.Mathlib.Omega.{arith}
use mathlib.Core.Path.{◌≡◌, refl, ap, ◌∙◌}
use mathlib.Core.List.{List}
use mathlib.Core.Option
use mathlib.Core.Option.{Option, none, some}
use lib.ListN.{get_or}
use Rattle.definitions.specs.Rows.{rows_of, first_bad, place_of, index, index_entry}
use Rattle.definitions.proofs.RowLaws.{listed}
use Rattle.definitions.proofs.TableLaws.{index_at, few-places}
use Rattle.rows.specs.Indexed.{Indexed}
use Rattle.rows.proofs.WholeRows.{whole-rows}

-- an index of a table that passes
pub indexed : (table ix : List ℕ) → first_bad (rows_of table) ≡ none → ix ≡ index (rows_of table) → Indexed table ix
indexed table ix passes e =
    record {
      entry = λ iei h. ap (λ (x : List ℕ). get_or x iei 0) e ∙ index_at (rows_of table) iei 0 h;
      below = λ iei k p. let i = (listed (rows_of table) iei k passes p).inside in let f = few-places (rows_of table) passes in omega arith;
      whole = whole-rows table passes;
    }

module _ (table index : List ℕ) (i : Indexed table index) (iei : ℕ) (octet : iei < 256) where
  pub no_place : get_or index iei 0 ≡ 255 → place_of (rows_of table) iei ≡ none
  unfolding index_entry
  no_place e = by (place_of (rows_of table) iei) refl (i.entry iei octet)
    where
      by : (o : Option ℕ) → place_of (rows_of table) iei ≡ o → get_or index iei 0 ≡ min 255 (Option.get_or (place_of (rows_of table) iei) 255) → place_of (rows_of table) iei ≡ none
      by none q f = q
      by (some k) q f =
          let g : get_or index iei 0 ≡ min 255 k = rw q at f in
          let l : k < 128 = i.below iei k q in
          absurd (omega arith)

  pub some-place : (get_or index iei 0 ≡ 255 → ⊥) → (place_of (rows_of table) iei ≡ some (get_or index iei 0)) × (get_or index iei 0 < 128)
  unfolding index_entry
  some-place n = by (place_of (rows_of table) iei) refl (i.entry iei octet)
    where
      by : (o : Option ℕ) → place_of (rows_of table) iei ≡ o → get_or index iei 0 ≡ min 255 (Option.get_or (place_of (rows_of table) iei) 255)
          → (place_of (rows_of table) iei ≡ some (get_or index iei 0)) × (get_or index iei 0 < 128)
      by none q f =
          let g : get_or index iei 0 ≡ min 255 255 = rw q at f in
          absurd (n (omega arith))
      by (some k) q f =
          let g : get_or index iei 0 ≡ min 255 k = rw q at f in
          let l : k < 128 = i.below iei k q in
          let e : k ≡ get_or index iei 0 = omega arith in
          (q ∙ ap some e, omega arith)
