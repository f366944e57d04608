-- "Why was it set aside?" (document 02, item 6): the verdict of an element and its ground.
use Rattle.std.specs.Prelude.{ℕ, max, List, [], ◌∷◌, ◌++◌, Bool, length, take, drop, ltb}
use Rattle.std.proofs.Math.Option.{get_or, none, some}
use Rattle.definitions.specs.Basic.{pick, is_none, Answer, answer, refusal, refuse, refuse_at, unless, most_octets}
use Rattle.definitions.specs.Rows.{Row, rows_of, row_at, form, first_bad}
use Rattle.definitions.specs.Tables.{table_of, start_of}
use Rattle.definitions.specs.Length.{whole}
use Rattle.definitions.specs.Elements.{Verdict, accepted, unknown, malformed, repeated, out_of_sequence, Element, is_at, Parted, elements, cut_short, parted, elements_of}
use Rattle.definitions.specs.Reading.{cut_of}
use Rattle.definitions.specs.Listing.{ascii, decimal, word, space, newline, listed, most_listed}

-- ---- the ground

-- the start of the first of some elements that has the place k, accepted or set aside; 0 where none has
unfoldable pub first_at : ℕ → List Element → ℕ
first_at k [] = 0
first_at k (e ∷ es) = pick (is_at k e) e.at (first_at k es)

-- the highest place of some elements, accepted or set aside; 0 where none has a place
unfoldable pub highest_of : List Element → ℕ
highest_of [] = 0
highest_of (e ∷ es) = max (get_or e.place 0) (highest_of es)

pub data Fault : Type 0 where
  cut_off : Fault
  under_least : Fault
  kind_barred : Fault

-- what is wrong with a malformed element of a row: cut short, under the least length, or else its kind is not allowed
unfoldable pub fault_in : Row → List ℕ → Fault
fault_in r s = pick (is_none (whole (form r) s)) cut_off (pick (ltb (length s) r.least) under_least kind_barred)

-- a verdict with its ground: of a malformed element its fault; of a repeated one the start of the first element of its place; of
-- one out of sequence the start of the first element of the highest place met before it
pub data Why : Type 0 where
  was_accepted : Why
  was_unknown : Why
  was_malformed : Fault → Why
  was_repeated : ℕ → Why
  was_out_of_sequence : ℕ → Why

-- by the verdict of an element of the place k, with the elements before it and its own octets
unfoldable pub why_by : List Row → List Element → ℕ → List ℕ → Verdict → Why
why_by t es k s accepted = was_accepted
why_by t es k s unknown = was_unknown
why_by t es k s malformed = was_malformed (fault_in (row_at t k) s)
why_by t es k s repeated = was_repeated (first_at k es)
why_by t es k s out_of_sequence = was_out_of_sequence (first_at (highest_of es) es)

-- an element without a place is unknown, and has no ground
unfoldable pub why : List Row → List Element → Element → Why
why t es e = why_by t es (get_or e.place 0) e.octets e.verdict

-- ---- the call

abbrev pub fault_number : Fault → ℕ
fault_number cut_off = 1
fault_number under_least = 2
fault_number kind_barred = 3

-- the values of the answer: how the element came, then the ground, if it has one
abbrev pub why_numbers : Why → List ℕ
why_numbers was_accepted = 0 ∷ []
why_numbers was_unknown = 1 ∷ []
why_numbers (was_malformed f) = 2 ∷ fault_number f ∷ []
why_numbers (was_repeated at) = 3 ∷ at ∷ []
why_numbers (was_out_of_sequence at) = 4 ∷ at ∷ []

-- what is said of the element number n, from 0, with those before it; or of its absence
unfoldable pub at_number {ℓ} : {X : Type ℓ} → ℕ → List Element → X → (List Element → Element → X) → X
at_number n es x f = elim (drop n es) [ [] ↦ x | ◌∷◌ e rest ↦ f (take n es) e ]

-- 27: no such element
unfoldable pub why_at : List Row → List Element → ℕ → Answer
why_at t es n = at_number n es (answer 27 []) (λ bs e. answer 0 (why_numbers (why t bs e)))

-- the refusals of reading but those of room, 4, 3, 1, for every number; then 27
unfoldable pub explaining : List ℕ → ℕ → Bool → List ℕ → ℕ → Answer
explaining table start option part n =
    let t : List Row = rows_of table in
    let p : Parted = parted t start option part in
    unless (refusal (refuse_at 4 (first_bad t) ∷ refuse (ltb most_octets (length part)) 3 [] ∷ cut_of p ∷ [])) (λ a. a) (why_at t (elements_of p) n)

-- the same by table number: refusal 5, checked first, where there is none
unfoldable pub explaining_by : ℕ → Bool → List ℕ → ℕ → Answer
explaining_by number option part n = elim (table_of number) [ none ↦ answer 5 [] | some table ↦ explaining table start_of option part n ]

-- ---- what nas-why prints

abbrev pub fault_words : Fault → List ℕ
fault_words cut_off = ascii "cut short"
fault_words under_least = ascii "under the least length"
fault_words kind_barred = ascii "kind not allowed"

-- the verdict as nas-list has it, then the ground
abbrev pub why_words : Why → List ℕ
why_words was_accepted = word accepted
why_words was_unknown = word unknown
why_words (was_malformed f) = word malformed ++ (space ++ fault_words f)
why_words (was_repeated at) = word repeated ++ (space ++ decimal at)
why_words (was_out_of_sequence at) = word out_of_sequence ++ (space ++ decimal at)

-- one line: of the element, or that there is none; of a part that is cut short, nas-list's line
unfoldable pub why_line : List Row → ℕ → Parted → List ℕ
why_line t n (elements es) = at_number n es (ascii "no such element") (λ bs e. why_words (why t bs e)) ++ newline
why_line t n (cut_short a x k m) = listed 0 (cut_short a x k m)

-- over 4,096 octets, too long
unfoldable pub why_text : List ℕ → Bool → List ℕ → ℕ → List ℕ
why_text table option part n =
    let t : List Row = rows_of table in
    pick (ltb most_listed (length part)) (ascii "too long" ++ newline) (why_line t n (parted t start_of option part))
