-- Why an element was set aside: examples by computation, and what was met, told by the elements met.
-- The laws go by the element that stands at a step: behind it the set has its place too, and the highest is the higher of the two.
use Prim.Native.Nat.{ℕ, zero, suc, ◌^◌, ◌<◌, ◌≤◌, max}
use native.Mathlib.Omega.{arith}
use native.Mathlib.Nat.{zero-div}
use mathlib.Core.Path.{◌≡◌, refl, ap, sym, ◌∙◌}
use mathlib.Core.List.{List, [], ◌∷◌, ◌++◌, map}
use mathlib.Core.Bool.{Bool, true, false, ◌||◌}
use mathlib.Core.Option.{Option, none, some, get_or}
use lib.ListN.{length}
use lib.Dec.{eqb, ltb}
use borrow.Author.Tests.{eqb-true, eqb-false, eq-eqb, ne_eqb, ltb-true, ltb-false}
use Rattle.definitions.specs.Basic.{Answer, answer, pick, is_none, among, concat, refusal, bit, receivable}
use Rattle.definitions.specs.Octets.{run, number, number_at}
use Rattle.definitions.specs.Rows.{Row, row_of, rows_f, rows_of, ieis, form_of, form, good_iei, all_good, fresh, good_row, first_bad_from, first_bad, iei_of, place_from, place_of, row_at}
use Rattle.definitions.specs.Tables.{row, table_p, table_of, start_of}
use Rattle.definitions.specs.Length.{header, length_by, stated, within, whole, unknown_form, unknown_length, lacking, missing, required}
use Rattle.definitions.specs.Elements.{Verdict, accepted, unknown, malformed, repeated, out_of_sequence, Element, Met, nothing_met, including, meet, taken_by, taken, judged, octets_of, known, stranger, stranger_step, place_step, step, before, step_then, parted_f, parted, elements_of, is_at}
use Rattle.definitions.specs.Reading.{cut_of}
use Rattle.definitions.specs.Listing.{ascii, decimal_f, decimal, hex_digit, hex, word, listed}
use Rattle.definitions.specs.Why.{first_at, highest_of, fault_in, why_by, why, at_number, why_at, explaining, explaining_by, why_line, why_text}
use Rattle.definitions.proofs.Steps.{Stands, strange, placed}
use Rattle.definitions.proofs.BitLaws.{bit-including}

-- ---- examples under table P

-- a part, the option and the number of an element; what is answered and what is printed
pub record Asked : Type 0 where
  pub part : List ℕ
  pub option : Bool
  pub at : ℕ
  pub said : Answer
  pub text : List ℕ

abbrev asked : List ℕ → Bool → ℕ → Answer → List ℕ → Asked
asked part option at said text = record { part = part; option = option; at = at; said = said; text = text }

-- document 01's listing, element by element and one too many; both other faults
unfoldable pub asks : List Asked
asks =
    asked (0xc1 ∷ 0x90 ∷ 0x10 ∷ 0x00 ∷ 0x10 ∷ 0x01 ∷ 0xaa ∷ []) false 0 (answer 0 (0 ∷ [])) (ascii "accepted\n")
    ∷ asked (0xc1 ∷ 0x90 ∷ 0x10 ∷ 0x00 ∷ 0x10 ∷ 0x01 ∷ 0xaa ∷ []) false 1 (answer 0 (1 ∷ [])) (ascii "unknown\n")
    ∷ asked (0xc1 ∷ 0x90 ∷ 0x10 ∷ 0x00 ∷ 0x10 ∷ 0x01 ∷ 0xaa ∷ []) false 2 (answer 0 (2 ∷ 2 ∷ [])) (ascii "malformed under the least length\n")
    ∷ asked (0xc1 ∷ 0x90 ∷ 0x10 ∷ 0x00 ∷ 0x10 ∷ 0x01 ∷ 0xaa ∷ []) false 3 (answer 0 (3 ∷ 2 ∷ [])) (ascii "repeated 2\n")
    ∷ asked (0xc1 ∷ 0x90 ∷ 0x10 ∷ 0x00 ∷ 0x10 ∷ 0x01 ∷ 0xaa ∷ []) false 4 (answer 27 []) (ascii "no such element\n")
    ∷ asked (0x77 ∷ 0x00 ∷ 0x05 ∷ 0xaa ∷ 0xc1 ∷ []) false 0 (answer 0 (2 ∷ 1 ∷ [])) (ascii "malformed cut short\n")
    ∷ asked (0xc9 ∷ []) false 0 (answer 0 (2 ∷ 3 ∷ [])) (ascii "malformed kind not allowed\n")
    ∷ []

-- the ground: with the option on, of one that is bad too; the first of two of the highest place; a highest place that was set aside;
-- of a repeat that is also out of sequence, the element of its own place, which was set aside
unfoldable pub grounds : List Asked
grounds =
    asked (0x52 ∷ 0x07 ∷ 0x08 ∷ 0xc3 ∷ []) true 1 (answer 0 (4 ∷ 0 ∷ [])) (ascii "sequence 0\n")
    ∷ asked (0xc1 ∷ 0x52 ∷ 0x07 ∷ 0x08 ∷ 0x52 ∷ 0x07 ∷ 0x08 ∷ 0x10 ∷ 0x01 ∷ 0xaa ∷ []) false 3 (answer 0 (4 ∷ 1 ∷ [])) (ascii "sequence 1\n")
    ∷ asked (0xc1 ∷ 0x2f ∷ 0x01 ∷ 0x03 ∷ 0x10 ∷ 0x01 ∷ 0xaa ∷ []) false 2 (answer 0 (4 ∷ 1 ∷ [])) (ascii "sequence 1\n")
    ∷ asked (0x52 ∷ 0x07 ∷ 0x08 ∷ 0xc1 ∷ 0xc1 ∷ []) false 2 (answer 0 (3 ∷ 3 ∷ [])) (ascii "repeated 3\n")
    ∷ []

-- a part that is cut behind the element: the refusal of reading, for every number
unfoldable pub cuts : List Asked
cuts =
    asked (0xc1 ∷ 0x05 ∷ 0x02 ∷ 0xaa ∷ []) false 0 (answer 1 (1 ∷ 5 ∷ 3 ∷ 1 ∷ [])) (ascii "cut at 1 iei 05 octets 3 missing 1\n")
    ∷ asked (0xc1 ∷ 0x05 ∷ 0x02 ∷ 0xaa ∷ []) false 9 (answer 1 (1 ∷ 5 ∷ 3 ∷ 1 ∷ [])) (ascii "cut at 1 iei 05 octets 3 missing 1\n")
    ∷ []

pub asks-hold : map (λ a. explaining table_p start_of a.option a.part a.at) (asks ++ (grounds ++ cuts)) ≡ map (λ (a : Asked). a.said) (asks ++ (grounds ++ cuts))
unfolding asks grounds cuts is_none among concat refusal bit receivable run number number_at row_of rows_f rows_of ieis form_of form good_iei all_good fresh good_row first_bad_from first_bad iei_of place_from place_of row_at row table_p header length_by stated within whole unknown_form unknown_length lacking missing required including meet taken_by taken judged octets_of known stranger stranger_step place_step step before step_then parted_f parted elements_of is_at cut_of first_at highest_of fault_in why_by why at_number why_at explaining
asks-hold = refl

pub texts-hold : map (λ a. why_text table_p a.option a.part a.at) (asks ++ (grounds ++ cuts)) ≡ map (λ (a : Asked). a.text) (asks ++ (grounds ++ cuts))
unfolding asks grounds cuts is_none among concat bit receivable run number number_at row_of rows_f rows_of ieis form_of form iei_of place_from place_of row_at row table_p header length_by stated within whole unknown_form unknown_length lacking missing required including meet taken_by taken judged octets_of known stranger stranger_step place_step step before step_then parted_f parted is_at ascii decimal_f decimal hex_digit hex word listed first_at highest_of fault_in why_by why at_number why_line why_text
texts-hold = refl

-- by number: P, and a number without a table
pub asks-by-hold : map (λ k. explaining_by k false (0xc9 ∷ []) 0) (0 ∷ 7 ∷ []) ≡ answer 0 (2 ∷ 3 ∷ []) ∷ answer 5 [] ∷ []
unfolding is_none among concat refusal bit receivable run number number_at row_of rows_f rows_of ieis form_of form good_iei all_good fresh good_row first_bad_from first_bad iei_of place_from place_of row_at row table_p table_of header length_by stated within whole unknown_form unknown_length lacking missing required including meet taken_by taken judged octets_of known stranger stranger_step place_step step before step_then parted_f parted elements_of is_at cut_of first_at highest_of fault_in why_by why at_number why_at explaining explaining_by
asks-by-hold = refl

-- ---- what was met, by the elements met

-- whether one of some elements has the place k
unfoldable pub any_at : ℕ → List Element → Bool
any_at k [] = false
any_at k (e ∷ es) = is_at k e || any_at k es

-- m is what was met with the elements es
pub record Tallies (es : List Element) (m : Met) : Type 0 where
  pub places : (k : ℕ) → bit k m.places ≡ any_at k es
  pub highest : m.highest ≡ highest_of es

pub tallies-none : Tallies [] nothing_met
unfolding bit any_at highest_of
tallies-none = record { places = λ k. rw (zero-div (2 ^ k)); highest = refl }

-- ---- with one element more

abbrev last : List Element → Element → List Element
last es d = es ++ (d ∷ [])

pub any_last : (k : ℕ) (es : List Element) (d : Element) → any_at k (last es d) ≡ (is_at k d || any_at k es)
unfolding any_at
any_last k [] d = refl
any_last k (e ∷ es) d = ap (λ (b : Bool). is_at k e || b) (any_last k es d) ∙ by (is_at k e) (is_at k d)
  where
    by : (a b : Bool) → (a || (b || any_at k es)) ≡ (b || (a || any_at k es))
    by true true = refl
    by true false = refl
    by false true = refl
    by false false = refl

pub highest-last : (es : List Element) (d : Element) → highest_of (last es d) ≡ max (get_or d.place 0) (highest_of es)
unfolding highest_of
highest-last [] d = refl
highest-last (e ∷ es) d = let h = highest-last es d in omega arith

-- the first of a place, where there is one before
pub first-before : (k : ℕ) (es : List Element) (d : Element) → any_at k es ≡ true → first_at k (last es d) ≡ first_at k es
unfolding any_at first_at
first-before k [] d h = let z : ◌≡◌ {A = ℕ} 0 1 = cc in absurd (omega arith)
first-before k (e ∷ es) d h = by (is_at k e) (first-before k es d) h
  where
    by : (b : Bool) → (any_at k es ≡ true → first_at k (last es d) ≡ first_at k es) → (b || any_at k es) ≡ true
        → pick b e.at (first_at k (last es d)) ≡ pick b e.at (first_at k es)
    by true rest g = refl
    by false rest g = rest g

-- and where there is none
pub first-here : (k : ℕ) (es : List Element) (d : Element) → any_at k es ≡ false → is_at k d ≡ true → first_at k (last es d) ≡ d.at
unfolding any_at first_at
first-here k [] d h g = rw g
first-here k (e ∷ es) d h g = by (is_at k e) (λ f. first-here k es d f g) h
  where
    by : (b : Bool) → (any_at k es ≡ false → first_at k (last es d) ≡ d.at) → (b || any_at k es) ≡ false → pick b e.at (first_at k (last es d)) ≡ d.at
    by true rest f = let z : ◌≡◌ {A = ℕ} 0 1 = cc in absurd (omega arith)
    by false rest f = rest f

eqb-sym : (a b : ℕ) → eqb a b ≡ eqb b a
eqb-sym a b = by (eqb a b) refl
  where
    by : (t : Bool) → eqb a b ≡ t → t ≡ eqb b a
    by true e = sym (eq-eqb b a (sym (eqb-true a b e)))
    by false e = sym (ne_eqb b a (λ f. eqb-false a b e (sym f)))

-- behind an element, what was met is told by one element more
pub tallies-next : {t : List Row} {start : ℕ} {option : Bool} {m m' : Met} {at : ℕ} {s : List ℕ} {e : Element} (es : List Element) → Stands t start option m at s e m' → Tallies es m → Tallies (last es e) m'
unfolding stranger known meet is_at
tallies-next es (strange {at = at} {x = x} {xs = xs} p r) h =
    let d : Element = stranger at (octets_of (whole (unknown_form _ x) (x ∷ xs)) (x ∷ xs)) in
    let q : max 0 (highest_of es) ≡ highest_of es = omega arith in
    record { places = λ j. h.places j ∙ sym (any_last j es d); highest = h.highest ∙ sym (highest-last es d ∙ q) }
tallies-next {t = t} {option = option} {at = at} {s = s} es (placed {m = m} k p) h =
    let d : Element = known t option m at s k in
    record {
      places = λ j. bit-including j k m.places ∙ rw (eqb-sym j k, h.places j) (sym (any_last j es d));
      highest = ap (max k) h.highest ∙ sym (highest-last es d);
    }

-- the highest place is one of theirs
highest-or : (es : List Element) (j : ℕ) (b : Bool) → ltb j (highest_of es) ≡ b → (0 < highest_of es → any_at (highest_of es) es ≡ true)
    → (eqb j (max j (highest_of es)) || any_at (max j (highest_of es)) es) ≡ true
highest-or es j true q rest =
    let l : j < highest_of es = ltb-true j (highest_of es) q in
    let z : max j (highest_of es) ≡ highest_of es = omega arith in
    rw (z, rest (omega arith)) (by (eqb j (highest_of es)))
  where
    by : (b : Bool) → (b || true) ≡ true
    by true = refl
    by false = refl
highest-or es j false q rest =
    let l : highest_of es ≤ j = ltb-false j (highest_of es) q in
    let z : max j (highest_of es) ≡ j = omega arith in
    rw (z, eq-eqb j j refl)

pub highest-any : (es : List Element) → 0 < highest_of es → any_at (highest_of es) es ≡ true
unfolding any_at highest_of is_at
highest-any [] h = absurd (omega arith)
highest-any (e ∷ es) h = by e.place _ refl (highest-any es) h
  where
    by : (o : Option ℕ) (n : ℕ) → n ≡ max (get_or o 0) (highest_of es) → (0 < highest_of es → any_at (highest_of es) es ≡ true) → 0 < n
        → (elim o [ none ↦ false | some j ↦ eqb j n ] || any_at n es) ≡ true
    by none n q rest g = let z : n ≡ highest_of es = omega arith in rw z (rest (omega arith))
    by (some j) n q rest g = rw q (highest-or es j (ltb j (highest_of es)) refl rest)

-- ---- what held where an element has its verdict

pub data Held (t : List Row) (m : Met) (e : Element) : Verdict → Type 0 where
  taken-so : Held t m e accepted
  no_place : Held t m e unknown
  not_taken : (k : ℕ) (s : List ℕ) → e.place ≡ some k → e.octets ≡ octets_of (whole (form (row_at t k)) s) s
      → taken (row_at t k) (whole (form (row_at t k)) s) s ≡ false → Held t m e malformed
  was-met : (k : ℕ) → e.place ≡ some k → bit k m.places ≡ true → Held t m e repeated
  was-below : (k : ℕ) → e.place ≡ some k → k < m.highest → Held t m e out_of_sequence

pub stands-held : {t : List Row} {start : ℕ} {option : Bool} {m m' : Met} {at : ℕ} {s : List ℕ} {e : Element} → Stands t start option m at s e m' → Held t m e e.verdict
unfolding stranger known judged
stands-held (strange p r) = no_place
stands-held {t = t} {option = option} {at = at} {s = s} (placed {m = m} k p) =
    by option (bit k m.places) (ltb k m.highest) (taken (row_at t k) (whole (form (row_at t k)) s) s) refl refl refl
  where
    by : (o a b c : Bool) → bit k m.places ≡ a → ltb k m.highest ≡ b → taken (row_at t k) (whole (form (row_at t k)) s) s ≡ c → Held t m (known t option m at s k) (judged o a b c)
    by o true b c f g h = was-met k refl f
    by o false false true f g h = taken-so
    by o false false false f g h = not_taken k s refl refl h
    by true false true true f g h = taken-so
    by true false true false f g h = was-below k refl (ltb-true k m.highest g)
    by false false true true f g h = was-below k refl (ltb-true k m.highest g)
    by false false true false f g h = was-below k refl (ltb-true k m.highest g)

-- why it has it, by the verdict alone and by its place
pub why-only : (t : List Row) (es : List Element) (e : Element) (v : Verdict) → e.verdict ≡ v → why t es e ≡ why_by t es (get_or e.place 0) e.octets v
unfolding why
why-only t es e v q = ap (why_by t es (get_or e.place 0) e.octets) q

pub why-placed : (t : List Row) (es : List Element) (e : Element) (k : ℕ) (v : Verdict) → e.place ≡ some k → e.verdict ≡ v → why t es e ≡ why_by t es k e.octets v
why-placed t es e k v p q = why-only t es e v q ∙ ap (λ (o : Option ℕ). why_by t es (get_or o 0) e.octets v) p

-- ---- the element number n, where one more comes behind the others

-- it is among the others
pub number-before {ℓ} : {X : Type ℓ} (n : ℕ) (es : List Element) (d : Element) (x : X) (f : List Element → Element → X) → n < length es → at_number n (last es d) x f ≡ at_number n es x f
unfolding at_number
number-before n [] d x f h = absurd (omega arith)
number-before zero (e ∷ es) d x f h = refl
number-before (suc n) (e ∷ es) d x f h = number-before n es d x (λ bs. f (e ∷ bs)) (omega arith)

-- it is that one
pub number-here {ℓ} : {X : Type ℓ} (n : ℕ) (es : List Element) (d : Element) (x : X) (f : List Element → Element → X) → length es ≡ n → at_number n (last es d) x f ≡ f es d
unfolding at_number
number-here zero [] d x f h = refl
number-here (suc n) [] d x f h = absurd (omega arith)
number-here zero (e ∷ es) d x f h = absurd (omega arith)
number-here (suc n) (e ∷ es) d x f h = number-here n es d x (λ bs. f (e ∷ bs)) (omega arith)

-- it is none of some elements
pub number-none {ℓ} : {X : Type ℓ} (n : ℕ) (es : List Element) (x : X) (f : List Element → Element → X) → length es ≤ n → at_number n es x f ≡ x
unfolding at_number
number-none zero [] x f h = refl
number-none (suc n) [] x f h = refl
number-none zero (e ∷ es) x f h = absurd (omega arith)
number-none (suc n) (e ∷ es) x f h = number-none n es x (λ bs. f (e ∷ bs)) (omega arith)

-- what is made of what is said of it
pub number-map {ℓ ℓ'} : {X : Type ℓ} {Y : Type ℓ'} (g : X → Y) (n : ℕ) (es : List Element) (x : X) (f : List Element → Element → X) → g (at_number n es x f) ≡ at_number n es (g x) (λ bs e. g (f bs e))
unfolding at_number
number-map g zero [] x f = refl
number-map g (suc n) [] x f = refl
number-map g zero (e ∷ es) x f = refl
number-map g (suc n) (e ∷ es) x f = number-map g n es x (λ bs. f (e ∷ bs))
