-- Document 02, item 8, in words of ours, sentence by sentence: the statements are `GreatestIgnored`, `AcceptedWritten`, `WriterAccepted`,
-- `FrontAccepted` and `OptionAlike`.
use Rattle.std.specs.Prelude.{ℕ, ◌*◌, ◌≤◌, ◌<◌, ◌≡◌, List, [], ◌∷◌, map, Bool, true, length, take}
use Rattle.definitions.specs.Basic.{Answer, answer, receivable, refusal, unless, Used, content, most_octets}
use Rattle.definitions.specs.Rows.{Row, rows_of, row_at, form, of_half, first_iei, first_bad}
use Rattle.definitions.specs.Elements.{parted}
use Rattle.definitions.specs.Reading.{Lent, Read, reading}
use Rattle.definitions.specs.Checking.{checking_checks, checking}
use Rattle.definitions.specs.Values.{place_width, value_at, present, octets_at, fits}
use Rattle.definitions.specs.Writing.{Filled, element_at, writing}
use Rattle.promises.specs.RoundTrip.{AreOctets, gives}

-- ---- receiving does not look at the greatest length

-- a row but for its greatest length
unfoldable pub bare : Row → Row
bare r = record { count = r.count; slots = r.slots; code = r.code; size = r.size; least = r.least; greatest = 0; kinds = r.kinds }

-- for two tables that differ in greatest lengths alone, and that both pass the check, or fail it at the same row: reading any part is the
-- same, in its answer, its rows and its logs
abbrev pub GreatestIgnored : Type 0
GreatestIgnored =
    (table table' : List ℕ) (start : ℕ) (option : Bool) (part : List ℕ) (l : Lent) → map bare (rows_of table) ≡ map bare (rows_of table')
    → first_bad (rows_of table) ≡ first_bad (rows_of table') → reading table start option part l ≡ reading table' start option part l

-- ---- an accepted part is what the writer gives for its values

-- lent octets of which none are used: an empty log, and no set octets
abbrev pub unused : List ℕ → Used
unused buffer = record { buffer = buffer; used = 0 }

-- its values are the rows that reading leaves, whatever the option: reading is done with both logs empty and unchanged, and writing
-- these rows with the part as received octets, and both logs empty, gives exactly the part
pub record Returned (table : List ℕ) (part : List ℕ) (l : Lent) (r : Read) (set order kept output : List ℕ) : Type 0 where
  pub done : r.said ≡ answer 0 (0 ∷ 0 ∷ [])
  pub kept-log : r.kept ≡ l.kept
  pub order-log : r.order ≡ l.order
  pub written : writing table r.rows part (unused set) (unused order) (unused kept) output ≡ gives part output

-- for every accepted part, of octets, and enough room: a row for each place to read it, and its length to write it; the logs need none
abbrev pub AcceptedWritten : Type 0
AcceptedWritten =
    (table : List ℕ) (start : ℕ) (option : Bool) (part : List ℕ) (l : Lent) (set order kept output : List ℕ) → AreOctets part
    → checking table start part ≡ answer 0 [] → place_width * length (rows_of table) ≤ length l.rows → length part ≤ length output
    → Returned table part l (reading table start option part l) set order kept output

-- ---- what the writer gives for values that meet the rows is accepted

-- the value of a place meets its row: it fits the form; the element that the writer makes of it, under the first IEI, is from the least to
-- the greatest whole length; and its kind is allowed
pub record Meets (m : Filled) (k : ℕ) : Type 0 where
  pub fit : fits (form (row_at m.table k)) (value_at m.rows k).source (octets_at m.octets (value_at m.rows k)) ≡ true
  pub least : (row_at m.table k).least ≤ length (element_at m k (first_iei m.table k))
  pub greatest : length (element_at m k (first_iei m.table k)) ≤ (row_at m.table k).greatest
  pub kind : receivable (of_half (row_at m.table k)) (row_at m.table k).kinds (octets_at m.octets (value_at m.rows k)) ≡ true

abbrev pub filled : List ℕ → List ℕ → List ℕ → Used → Filled
filled table rows received set = record { table = rows_of table; rows = rows; octets = record { received = received; set = content set } }

-- for every message that the writer writes, both logs empty, whose every present value meets its row: what is written, if it has at most
-- 65,535 octets, is accepted, with any start number
abbrev pub WriterAccepted : Type 0
WriterAccepted =
    (table rows received : List ℕ) (set order kept : Used) (output out : List ℕ) (start : ℕ) → content order ≡ [] → content kept ≡ []
    → ((k : ℕ) → k < length (rows_of table) → present (value_at rows k) ≡ true → Meets (filled table rows received set) k)
    → writing table rows received set order kept output ≡ gives out output → length out ≤ most_octets → checking table start out ≡ answer 0 []

-- ---- all octets in front of the first offender are an accepted part

abbrev pub FrontAccepted : Type 0
FrontAccepted =
    (table : List ℕ) (start : ℕ) (part : List ℕ) (n : ℕ) → checking table start part ≡ answer 29 (n ∷ [])
    → (n < length part) × (checking table start (take n part) ≡ answer 0 [])

-- ---- the answer is the same with the option on, so the checker takes none

-- the checks of a part's elements, read with an option
unfoldable pub checked_with : Bool → List ℕ → ℕ → List ℕ → Answer
checked_with option table start part =
    unless (refusal (checking_checks (rows_of table) part (parted (rows_of table) start option part))) (λ a. a) (answer 0 [])

abbrev pub OptionAlike : Type 0
OptionAlike = (table : List ℕ) (start : ℕ) (part : List ℕ) → checked_with true table start part ≡ checking table start part
