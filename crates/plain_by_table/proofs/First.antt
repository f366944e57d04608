-- An IEI at whose entry an index has a place is the first of the place's row just where it is the table's: where the index has the table's
-- first IEI elsewhere, the row's first is 256, which no octet is. By the definition of the first IEI.
use Prim.Native.Nat.{ℕ, ◌<◌}
use native.Mathlib.Omega.{arith}
use mathlib.Core.Path.{◌≡◌, refl, ap, sym, ◌∙◌}
use mathlib.Core.List.{List, ◌∷◌}
use mathlib.Core.Bool.{Bool, true, false}
use borrow.Author.Tests.{eq-eqb, ne_eqb, eqb-true, eqb-false}
use lib.ListN.{get_or}
use lib.Seq.{take-length}
use lib.Dec.{eqb}
use Rattle.definitions.specs.Basic.{pick}
use Rattle.definitions.specs.Rows.{Row, ieis, first_iei}
use Rattle.rows.specs.Numbers.{numbers_at}
use Rattle.by_index.specs.ByIndex.{ieis_from, first_by, row_by, rows_by}
use Rattle.by_index.proofs.Rows.{row_at_lem}

module _ (table index : List ℕ) (k : ℕ) (low : k < 128) where
  abbrev first : ℕ
  first = (numbers_at table k).first

  first-is : first_iei (rows_by table index) k ≡ first_by index k first
  unfolding first_iei ieis row_by
  first-is =
      ap (λ (r : Row). get_or (ieis r) 0 0) (row_at_lem table index k low)
      ∙ ap (λ (l : List ℕ). get_or l 0 0) (take-length (first_by index k first ∷ ieis_from index k 0 256))

  module _ (iei : ℕ) (octet : iei < 256) (k-is : k ≡ get_or index iei 0) where
    pub first-same : eqb iei (first_iei (rows_by table index) k) ≡ eqb iei first
    unfolding first_by
    first-same = ap (eqb iei) first-is ∙ by (eqb (get_or index first 0) k) refl
      where
        by : (b : Bool) → eqb (get_or index first 0) k ≡ b → eqb iei (pick b first 256) ≡ eqb iei first
        by true q = refl
        by false q = ne_eqb iei 256 (λ z. omega arith) ∙ sym (ne_eqb iei first (λ z. eqb-false (get_or index first 0) k q (ap (λ (i : ℕ). get_or index i 0) (sym z) ∙ sym k-is)))

    pub own_first : iei ≡ first → iei ≡ first_iei (rows_by table index) k
    own_first e = eqb-true iei (first_iei (rows_by table index) k) (first-same ∙ eq-eqb iei first e)

    pub other-first : (iei ≡ first → ⊥) → iei ≡ first_iei (rows_by table index) k → ⊥
    other-first n e = n (eqb-true iei first (sym first-same ∙ eq-eqb iei (first_iei (rows_by table index) k) e))
