-- A table that passes its check has every row whole: a row that is not has no set of kinds, which fails.
-- By the first bad row, row by row; past the last row all numbers are 0 on both sides.
use Prim.Native.Nat.{ℕ, zero, suc, ◌*◌, ◌/◌, ◌≤◌, ◌<◌}
use native.Mathlib.Omega.{arith}
use mathlib.Core.Path.{◌≡◌, refl, ap, sym, ◌∙◌}
use mathlib.Core.List.{List, [], ◌∷◌}
use mathlib.Core.Bool.{Bool, true, false}
use mathlib.Core.Option.{none}
use borrow.Author.Tests.{lt-ltb, le-ltb, ltb-true, ltb-false}
use lib.ListN.{length, get_or, length-take}
use lib.Seq.{get_or-drop, get_or-take}
use lib.Dec.{ltb, lit<}
use Rattle.definitions.specs.Rows.{Row, row_of, rows_of, row_at, ieis, first_iei, first_bad, no_row}
use Rattle.definitions.proofs.RowLaws.{Passes, passes as rows_pass}
use Rattle.definitions.proofs.TableLaws.{past, row_at_lem, iei-at, count-is, row_count}
use Rattle.rows.specs.Numbers.{numbers_at, Whole}

row-past : (t : List Row) (k : ℕ) → length t ≤ k → row_at t k ≡ no_row
unfolding row_at
row-past [] k h = refl
row-past (r ∷ rs) zero h = absurd (omega arith)
row-past (r ∷ rs) (suc k) h = row-past rs k (omega arith)

module _ (table : List ℕ) (passes : first_bad (rows_of table) ≡ none) where
  abbrev t : List Row
  t = rows_of table

  good : (k : ℕ) → k < length t → Passes (row_at t k)
  good k h = rows_pass t k passes h

  -- a row of the table is whole
  inside : (k : ℕ) → k < length t → k < length table / 10
  unfolding row_of
  inside k h = by (ltb k (length table / 10)) refl
    where
      by : (b : Bool) → ltb k (length table / 10) ≡ b → k < length table / 10
      by true e = ltb-true k (length table / 10) e
      by false e =
          let o = ltb-false k (length table / 10) e in
          let z : (row_at t k).kinds ≡ 0 = ap (λ (r : Row). r.kinds) (row_at_lem table k) ∙ past (10 * k) table 9 (omega arith) in
          absurd (omega (arith, (good k h).kind))

  -- the numbers of a row, as the definitions have them
  record Same (k : ℕ) : Type 0 where
    count : (numbers_at table k).count ≡ (row_at t k).count
    first : (numbers_at table k).first ≡ first_iei t k
    code : (numbers_at table k).code ≡ (row_at t k).code
    size : (numbers_at table k).size ≡ (row_at t k).size
    least : (numbers_at table k).least ≡ (row_at t k).least
    greatest : (numbers_at table k).greatest ≡ (row_at t k).greatest
    kinds : (numbers_at table k).kinds ≡ (row_at t k).kinds

  same : (k : ℕ) → Same k
  unfolding numbers_at first_iei row_of ieis
  same k = by (ltb k (length t)) refl
    where
      by : (b : Bool) → ltb k (length t) ≡ b → Same k
      by true e =
          let h = ltb-true k (length t) e in
          let w = lt-ltb k (length table / 10) (inside k h) in
          let c : 0 < get_or table (10 * k) 0 = omega (arith, (good k h).listing, count-is table k) in
          record {
            count = rw (w, row_at_lem table k);
            first = rw w (get_or-drop (10 * k) table 1 0 ∙ sym (iei-at table k 0 c (lit< tt)));
            code = rw (w, row_at_lem table k);
            size = rw (w, row_at_lem table k);
            least = rw (w, row_at_lem table k);
            greatest = rw (w, row_at_lem table k);
            kinds = rw (w, row_at_lem table k);
          }
      by false e =
          let h = ltb-false k (length t) e in
          let w = le-ltb k (length table / 10) (omega (arith, row_count table)) in
          let r = row-past t k h in
          record { count = rw (w, r); first = rw (w, r); code = rw (w, r); size = rw (w, r); least = rw (w, r); greatest = rw (w, r); kinds = rw (w, r) }

  pub whole-rows : Whole table
  whole-rows =
      record {
        count = λ k. (same k).count;
        first = λ k. (same k).first;
        code = λ k. (same k).code;
        size = λ k. (same k).size;
        least = λ k. (same k).least;
        greatest = λ k. (same k).greatest;
        kinds = λ k. (same k).kinds;
      }

-- an IEI that a row lists is one of its four numbers
pub slot-listed : (r : Row) (j : ℕ) → j < length (ieis r) → get_or r.slots j 0 ≡ get_or (ieis r) j 0
unfolding ieis
slot-listed r j h = let l = length-take r.count r.slots in sym (get_or-take r.count r.slots j 0 (omega arith))
