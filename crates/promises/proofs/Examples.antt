-- Condition 3 at work under table P: a real change, all that it promises of it, and what is no change of value octets.
-- Each example computes; what the conclusion rules out goes by cases on how a verdict may move.
use Prim.Native.Nat.{ℕ, zero, suc}
use native.Mathlib.Omega.{arith}
use mathlib.Core.Path.{◌≡◌, refl, ap}
use mathlib.Core.List.{List, [], ◌∷◌}
use mathlib.Core.Bool.{true, false, true≢false}
use mathlib.Core.Option.{none, some}
use lib.ListN.{length, take, drop, replicate}
use lib.Seq.{take-append_seam, drop-append_seam}
use lib.Pow.{are_bytes}
use lib.Dec.{ltb}
use borrow.Author.Tests.{ltb-true}
use Rattle.definitions.specs.Basic.{among, concat, over, bit, receivable}
use Rattle.definitions.specs.Octets.{run, number, number_at}
use Rattle.definitions.specs.Rows.{row_of, rows_f, rows_of, ieis, form_of, form, good_iei, all_good, fresh, good_row, first_bad_from, first_bad, iei_of, place_from, place_of, row_at}
use Rattle.definitions.specs.Tables.{row, table_p, start_of}
use Rattle.definitions.specs.Length.{header, length_by, stated, within, whole, unknown_form, unknown_length, required}
use Rattle.definitions.specs.Elements.{Verdict, is_accepted, accepted, unknown, malformed, repeated, Element, elements, including, meet, taken_by, taken, judged, octets_of, known, stranger, stranger_step, place_step, step, before, step_then, parted_f, parted}
use Rattle.definitions.specs.Reading.{Lent}
use Rattle.definitions.proofs.RowLaws.{both}
use Rattle.promises.specs.RoundTrip.{AreOctets, gives}
use Rattle.promises.specs.Condition3.{framed_by, Changed, Aside, Moves, stays, rises, Became, Kept}
use Rattle.promises.proofs.Rows.{element}
use Rattle.promises.proofs.Condition3.{condition3}

-- numbers that pass the test for octets are octets
pub are-octets : (s : List ℕ) → are_bytes s ≡ true → AreOctets s
are-octets [] h i = omega arith
are-octets (x ∷ s) h zero = ltb-true x 256 (both (ltb x 256) (are_bytes s) h).0
are-octets (x ∷ s) h (suc i) = are-octets s (both (ltb x 256) (are_bytes s) h).1 i

-- ---- a real change: of a half octet, of a value that is then not receivable, of a repeat, of an unknown element, and of
-- one that is cut short

abbrev first : List ℕ
first = 0xc1 ∷ 0x31 ∷ 0x01 ∷ 0x02 ∷ 0xc1 ∷ 0x95 ∷ 0x77 ∷ 0x00 ∷ 0x05 ∷ 0xaa ∷ []

abbrev changed : List ℕ
changed = 0xc2 ∷ 0x31 ∷ 0x01 ∷ 0x03 ∷ 0xc7 ∷ 0x96 ∷ 0x77 ∷ 0x00 ∷ 0x05 ∷ 0xbb ∷ []

abbrev elements_first : List Element
elements_first =
    element 0 (0xc1 ∷ []) (some 0) accepted
    ∷ element 1 (0x31 ∷ 0x01 ∷ 0x02 ∷ []) (some 3) accepted
    ∷ element 4 (0xc1 ∷ []) (some 0) repeated
    ∷ element 5 (0x95 ∷ []) none unknown
    ∷ element 6 (0x77 ∷ 0x00 ∷ 0x05 ∷ 0xaa ∷ []) (some 4) malformed
    ∷ []

abbrev elements_changed : List Element
elements_changed =
    element 0 (0xc2 ∷ []) (some 0) accepted
    ∷ element 1 (0x31 ∷ 0x01 ∷ 0x03 ∷ []) (some 3) malformed
    ∷ element 4 (0xc7 ∷ []) (some 0) repeated
    ∷ element 5 (0x96 ∷ []) none unknown
    ∷ element 6 (0x77 ∷ 0x00 ∷ 0x05 ∷ 0xbb ∷ []) (some 4) malformed
    ∷ []

pub decodes-first : parted (rows_of table_p) start_of false first ≡ elements elements_first
unfolding concat bit receivable among run number number_at row_of rows_f rows_of ieis form_of form iei_of place_from place_of row_at row table_p header length_by stated within whole unknown_form unknown_length required including meet taken_by taken judged octets_of known stranger stranger_step place_step step before step_then parted_f parted
decodes-first = refl

pub decodes-changed : parted (rows_of table_p) start_of false changed ≡ elements elements_changed
unfolding concat bit receivable among run number number_at row_of rows_f rows_of ieis form_of form iei_of place_from place_of row_at row table_p header length_by stated within whole unknown_form unknown_length required including meet taken_by taken judged octets_of known stranger stranger_step place_step step before step_then parted_f parted
decodes-changed = refl

pub really-changed : Changed (rows_of table_p) start_of elements_first first changed
unfolding Changed framed_by concat row_of rows_f rows_of form_of form row_at row table_p header unknown_form
really-changed = (
  record { as_long = refl; header-kept = λ l. absurd (omega arith); upper-kept = λ l. (refl, refl) },
  (
    record { as_long = refl; header-kept = λ l. refl; upper-kept = λ l. absurd (omega arith) },
    (
      record { as_long = refl; header-kept = λ l. absurd (omega arith); upper-kept = λ l. (refl, refl) },
      (
        record { as_long = refl; header-kept = λ l. absurd (omega arith); upper-kept = λ l. (refl, refl) },
        (
          record { as_long = refl; header-kept = λ l. refl; upper-kept = λ l. absurd (omega arith) },
          (refl, refl),
        ),
      ),
    ),
  ),
)

-- what is lent: a row for each of the five places, two logs of twice the ten octets, room for set octets and output
abbrev lent : Lent
lent = record { rows = replicate 20 9; kept = replicate 20 9; order = replicate 20 9 }

pub kept-example : Kept table_p start_of false elements_first changed lent (replicate 4 7) (replicate 12 7)
unfolding concat among row_of rows_f rows_of ieis form_of form good_iei all_good fresh good_row first_bad_from first_bad row table_p
kept-example =
    condition3 table_p start_of false first changed elements_first lent (replicate 4 7) (replicate 12 7) (record { passes = refl; short = omega arith }) decodes-first
    (record { rows = omega arith; kept = omega arith; order = omega arith }) really-changed (are-octets changed refl) (omega arith)

-- the elements that it promises are those that are there: the second one was set aside
pub kept-elements : kept-example.elements' ≡ elements_changed
kept-elements = let p = kept-example.decodes in let q = decodes-changed in cc

-- ---- what is no change of value octets

abbrev tlv_first : List Element
tlv_first = element 0 (0x10 ∷ 0x01 ∷ 0xaa ∷ []) (some 1) accepted ∷ []

-- not the length octet: 10 01 aa to 10 02 aa
pub length-octet : Changed (rows_of table_p) start_of tlv_first (0x10 ∷ 0x01 ∷ 0xaa ∷ []) (0x10 ∷ 0x02 ∷ 0xaa ∷ []) → ⊥
unfolding Changed framed_by concat row_of rows_f rows_of form_of form row_at row table_p header
length-octet c = let h = c.0.header-kept (omega arith) in let z : ◌≡◌ {A = ℕ} 2 1 = cc in omega arith

-- not the IEI: 10 01 aa to 2f 01 aa
pub iei-octet : Changed (rows_of table_p) start_of tlv_first (0x10 ∷ 0x01 ∷ 0xaa ∷ []) (0x2f ∷ 0x01 ∷ 0xaa ∷ []) → ⊥
unfolding Changed framed_by concat row_of rows_f rows_of form_of form row_at row table_p header
iei-octet c = let h = c.0.header-kept (omega arith) in let z : ◌≡◌ {A = ℕ} 0x2f 0x10 = cc in omega arith

-- not an octet more: 10 01 aa to 10 01 aa bb
pub octet-more : Changed (rows_of table_p) start_of tlv_first (0x10 ∷ 0x01 ∷ 0xaa ∷ []) (0x10 ∷ 0x01 ∷ 0xaa ∷ 0xbb ∷ []) → ⊥
unfolding Changed
octet-more c = let h = ap length c.1.1 in omega arith

-- not the upper four bits of a half: c1 to d1
pub upper-bits : Changed (rows_of table_p) start_of (element 0 (0xc1 ∷ []) (some 0) accepted ∷ []) (0xc1 ∷ []) (0xd1 ∷ []) → ⊥
unfolding Changed
upper-bits c = omega (arith, (c.0.upper-kept (omega arith)).0)

-- nothing where the length field is cut: 77 00 to 77 01
pub cut_field : Changed (rows_of table_p) start_of (element 0 (0x77 ∷ 0x00 ∷ []) (some 4) malformed ∷ []) (0x77 ∷ 0x00 ∷ []) (0x77 ∷ 0x01 ∷ []) → ⊥
unfolding Changed framed_by concat row_of rows_f rows_of form_of form row_at row table_p header
cut_field c = let h = c.0.header-kept (omega arith) in let z : ◌≡◌ {A = ℕ} 1 0 = cc in omega arith

-- ---- what the conclusion rules out

-- an unchanged element keeps its place and verdict
pub unchanged-keeps : (b : List ℕ) (e e' : Element) → Became b e e' → e'.octets ≡ e.octets → (e'.at ≡ e.at) × (e'.place ≡ e.place) × (e'.verdict ≡ e.verdict)
unchanged-keeps b e e' k h = let u = k.unchanged h in (ap (λ (x : Element). x.at) u, ap (λ (x : Element). x.place) u, ap (λ (x : Element). x.verdict) u)

-- a repeat stays one, and an unknown element unknown
pub repeat-stays : (v : Verdict) → Moves repeated v → v ≡ repeated
unfolding Aside
repeat-stays v (stays w) = refl
repeat-stays v (rises w a) = absurd a

pub unknown-stays : (v : Verdict) → Moves unknown v → v ≡ unknown
unfolding Aside
unknown-stays v (stays w) = refl
unknown-stays v (rises w a) = absurd a

-- one that is set aside keeps the reason, unless it is accepted
pub reason-stays : (v : Verdict) → Moves malformed v → is_accepted v ≡ false → v ≡ malformed
unfolding is_accepted
reason-stays v (stays w) h = refl
reason-stays v (rises w a) h = absurd (true≢false h)

-- the output begins with exactly the octets, and is unchanged behind them
pub output-is : (b output : List ℕ) → (take (length b) (gives b output).output ≡ b) × (drop (length b) (gives b output).output ≡ drop (length b) output)
unfolding gives over
output-is b output = (take-append_seam b (drop (length b) output), drop-append_seam b (drop (length b) output))
