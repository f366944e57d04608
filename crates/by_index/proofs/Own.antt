-- By a table's own index the rows that table and index say read a part as the table does: an IEI has the same place, and a place a row
-- of the same form that takes the same. By induction on the octets that are left.
use Prim.Native.Nat.{ℕ, zero, suc, ◌+◌, ◌<◌}
use native.Mathlib.Omega.{arith}
use mathlib.Core.Path.{◌≡◌, refl, ap, sym, ◌∙◌}
use mathlib.Core.List.{List, [], ◌∷◌}
use mathlib.Core.Bool.{Bool, true, false}
use mathlib.Core.Option.{Option, none, some}
use borrow.Author.Tests.{eqb-true, eqb-false}
use lib.ListN.{length, get_or, drop}
use lib.Seq.{get_or-drop}
use lib.Dec.{eqb}
use Rattle.definitions.specs.Rows.{Row, form, rows_of, row_at, iei_of, place_of}
use Rattle.definitions.specs.Length.{whole}
use Rattle.definitions.specs.Elements.{Element, Met, nothing_met, meet, taken, taken_by, known, Step, next, cut, ended, step, place_step, before, step_then, parted_f, parted}
use Rattle.definitions.proofs.TableLaws.{iei-octet}
use Rattle.rows.specs.Indexed.{Indexed}
use Rattle.rows.proofs.Indexed as own
use Rattle.by_index.specs.ByIndex.{row_by, rows_by}
use Rattle.by_index.proofs.Rows.{some-place, no_place, row_at_lem}

module _ (table index : List ℕ) (i : Indexed table index) where
  abbrev t : List Row
  t = rows_of table

  abbrev u : List Row
  u = rows_by table index

  place_same : (iei : ℕ) → iei < 256 → place_of u iei ≡ place_of t iei
  place_same iei h = by (eqb (get_or index iei 0) 255) refl
    where
      by : (b : Bool) → eqb (get_or index iei 0) 255 ≡ b → place_of u iei ≡ place_of t iei
      by true e =
          let q : get_or index iei 0 ≡ 255 = eqb-true (get_or index iei 0) 255 e in
          no_place table index iei h (omega arith) ∙ sym (own.no_place table index i iei h q)
      by false e =
          let q = own.some-place table index i iei h (eqb-false (get_or index iei 0) 255 e) in
          some-place table index iei h q.1 ∙ sym q.0

  pub form-same : (k : ℕ) → k < 128 → form (row_at u k) ≡ form (row_at t k)
  unfolding form row_by
  form-same k h = ap form (row_at_lem table index k h) ∙ rw (i.whole.code k, i.whole.size k)

  taken-same : (k : ℕ) → k < 128 → (o : Option ℕ) (s : List ℕ) → taken (row_at u k) o s ≡ taken (row_at t k) o s
  unfolding taken taken_by form row_by
  taken-same k h none s = refl
  taken-same k h (some n) s = rw (row_at_lem table index k h) (rw (i.whole.code k, i.whole.size k, i.whole.least k, i.whole.kinds k))

  known_same : (option : Bool) (m : Met) (at : ℕ) (s : List ℕ) (k : ℕ) → k < 128 → known u option m at s k ≡ known t option m at s k
  unfolding known
  known_same option m at s k h = rw (form-same k h, taken-same k h (whole (form (row_at t k)) s) s)

  pub step_same : (start : ℕ) (option : Bool) (m : Met) (at : ℕ) (s : List ℕ) → iei_of (get_or s 0 0) < 256 → step u start option m at s ≡ step t start option m at s
  unfolding step place_step
  step_same start option m at [] h = refl
  step_same start option m at (x ∷ xs) h = rw (place_same (iei_of x) h) (by (place_of t (iei_of x)) refl)
    where
      by : (p : Option ℕ) → place_of t (iei_of x) ≡ p → place_step u start option m at x (x ∷ xs) p ≡ place_step t start option m at x (x ∷ xs) p
      by none e = refl
      by (some k) e = ap (λ (d : Element). next d (meet k m)) (known_same option m at (x ∷ xs) k (i.below (iei_of x) k e))

  parted-from : (start : ℕ) (option : Bool) (f : ℕ) (m : Met) (at : ℕ) (s : List ℕ) → ((j : ℕ) → get_or s j 0 < 256) → parted_f u start option f m at s ≡ parted_f t start option f m at s
  unfolding parted_f step_then
  parted-from start option zero m at s h = refl
  parted-from start option (suc f) m at s h = rw (step_same start option m at s (iei-octet (get_or s 0 0) (h 0))) (by (step t start option m at s) (parted-from start option f))
    where
      by : (o : Step) → ((m : Met) (at : ℕ) (s : List ℕ) → ((j : ℕ) → get_or s j 0 < 256) → parted_f u start option f m at s ≡ parted_f t start option f m at s)
          → step_then o (λ m' n. parted_f u start option f m' (at + n) (drop n s)) ≡ step_then o (λ m' n. parted_f t start option f m' (at + n) (drop n s))
      by ended r = refl
      by (cut a x n k) r = refl
      by (next e m') r = ap (before e) (r m' (at + length e.octets) (drop (length e.octets) s) (λ j. rw (get_or-drop (length e.octets) s j 0) (h (length e.octets + j))))

  pub parted-same : (start : ℕ) (option : Bool) (part : List ℕ) → ((j : ℕ) → get_or part j 0 < 256) → parted u start option part ≡ parted t start option part
  unfolding parted
  parted-same start option part h = parted-from start option (length part) nothing_met 0 part h
