-- Writing mandatory rows gives back what was read of them. A reading that is done found a value for each row; each of them passes
-- the checks of writing and is written as it came, one behind the other.
use Prim.Native.Nat.{ℕ, ◌*◌, ◌-◌, ◌≤◌}
use native.Mathlib.Omega.{arith}
use mathlib.Core.Path.{◌≡◌, refl, ap, ◌∙◌}
use mathlib.Core.List.{List, [], ◌∷◌}
use mathlib.Core.Bool.{Bool, true, false, false≢true}
use mathlib.Core.Option.{Option, none, some}
use borrow.Author.Tests.{le-ltb, ltb-false}
use lib.ListN.{length, take, drop}
use lib.Seq.{length-take-le}
use lib.Dec.{ltb}
use Rattle.definitions.specs.Basic.{is_none, Answer, answer, refuse, refuse_at, refusal, unless, over, content, most_octets}
use Rattle.definitions.specs.Mandatory.{MandatoryRow, mandatory_rows_of, first_bad_mandatory, Rowed, rowed, RowsRead, mandatory_reading, rows_written, mandatory_writing}
use Rattle.definitions.specs.Values.{Octets, first_from, bad_rows}
use Rattle.promises.specs.Mandatory.{read_of, rows_back, gives_front, MandatoryRoundTrip}
use Rattle.promises.proofs.RoundTrip.{over-length, values-long}
use Rattle.promises.proofs.MandatoryReads.{Refusal, ended, left-length}
use Rattle.promises.proofs.MandatoryBack.{bad, gone, unfit, back}

-- ---- a reading that is done, and the writing of what it left

module _ (table : List ℕ) (lenient : Bool) (part rows : List ℕ) where
  abbrev t : List MandatoryRow
  t = mandatory_rows_of table

  abbrev o : Rowed
  o = rowed lenient 0 0 t part [] []

  record Done : Type 0 where
    passes : first_bad_mandatory t ≡ none
    short : length part ≤ most_octets
    none-refused : o.refused ≡ none
    is : mandatory_reading table lenient part rows ≡ record { said = answer 0 (o.read ∷ o.notes); rows = over o.rows rows }

  done : (mandatory_reading table lenient part rows).said.number ≡ 0 → Done
  unfolding mandatory_reading refusal
  done h = go (first_bad_mandatory t) (ltb most_octets (length part)) (ltb (length rows) (3 * length t)) o.refused refl refl refl refl (ended lenient 0 0 t part [] []).number h
    where
      go :
          (x : Option ℕ) (a b : Bool) (y : Option Answer) → first_bad_mandatory t ≡ x → ltb most_octets (length part) ≡ a → ltb (length rows) (3 * length t) ≡ b → o.refused ≡ y → Refusal y
          → (unless {X = RowsRead} (refusal (refuse_at 4 x ∷ refuse a 3 [] ∷ refuse b 2 (1 ∷ []) ∷ y ∷ [])) (λ a. record { said = a; rows = rows }) (record { said = answer 0 (o.read ∷ o.notes); rows = over o.rows rows })).said.number ≡ 0 → Done
      go (some k) a b y p q r e n h = absurd (omega arith)
      go none true b y p q r e n h = absurd (omega arith)
      go none false true y p q r e n h = absurd (omega arith)
      go none false false (some a) p q r e n h = absurd (omega arith)
      go none false false none p q r e n h = record { passes = p; short = ltb-false most_octets (length part) q; none-refused = e; is = rw (p, q, r, e) }

module _ (table rows part set output w : List ℕ) where
  abbrev lent : Octets
  lent = record { received = part; set = content (record { buffer = set; used = 0 }) }

  write_done :
      first_bad_mandatory (mandatory_rows_of table) ≡ none → length part ≤ most_octets → 3 * length (mandatory_rows_of table) ≤ length rows
      → first_from (bad part lent.set rows (mandatory_rows_of table)) 0 (length (mandatory_rows_of table)) ≡ none
      → first_from (gone part lent.set rows (mandatory_rows_of table)) 0 (length (mandatory_rows_of table)) ≡ none
      → first_from (unfit part lent.set rows (mandatory_rows_of table)) 0 (length (mandatory_rows_of table)) ≡ none
      → rows_written lent rows 0 0 (mandatory_rows_of table) ≡ w → length w ≤ length output
      → mandatory_writing table rows part (record { buffer = set; used = 0 }) output ≡ record { said = answer 0 (length w ∷ []); output = over w output }
  unfolding mandatory_writing refusal bad_rows is_none
  write_done a b c d e f g h =
      rw (a, values-long part set b, le-ltb (length rows) (3 * length (mandatory_rows_of table)) c, d, e, f, g, le-ltb (length output) (length w) h)

pub mandatory-round-trip : MandatoryRoundTrip
unfolding read_of rows_back gives_front first_bad_mandatory over
mandatory-round-trip table lenient part rows set output small h room =
    let t : List MandatoryRow = mandatory_rows_of table in
    let o : Rowed = rowed lenient 0 0 t part [] [] in
    let d = done table lenient part rows h in
    let a = (ended lenient 0 0 t part [] []).done d.none-refused in
    let left : List ℕ = a.left in
    let none-set : List ℕ = content (record { buffer = set; used = 0 }) in
    let b = back part none-set (over left rows) t small a.finds 0 0 false [] (drop (length left) rows) refl refl refl refl (omega arith) d.passes (λ z. absurd (false≢true z)) in
    let z : o.read - 0 ≡ o.read = omega arith in
    let n : length (take o.read part) ≡ o.read = length-take-le o.read part b.end in
    let m : o.read ≤ length output = rw d.is at room in
    let w = write_done table (over left rows) part set output (take o.read part) d.passes d.short (omega (arith, over-length left rows, left-length a.finds)) b.none-bad b.none-gone b.none-unfit (b.writes ∙ ap (λ (k : ℕ). take k part) z) (omega arith) in
    rw (d.is, a.rows_are) (w ∙ ap (λ (k : ℕ). record { said = answer 0 (k ∷ []); output = over (take o.read part) output }) n)
