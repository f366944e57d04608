-- Strangers among the elements (document 02, item 12), sentence by sentence; the statement is `Strangers`, at the end.
use Rattle.std.specs.Prelude.{ℕ, ◌+◌, ◌≤◌, ◌≡◌, List, [], ◌∷◌, ◌++◌, map, Bool, length, get_or, take, drop}
use Rattle.std.proofs.Math.Option.{none, some}
use Rattle.definitions.specs.Rows.{Row, rows_of, iei_of, place_of}
use Rattle.definitions.specs.Length.{whole, unknown_length}
use Rattle.definitions.specs.Elements.{Element, stranger, elements, parted}
use Rattle.definitions.specs.Reading.{Lent}
use Rattle.promises.specs.Joined.{joined}
use Rattle.promises.specs.Room.{Readable, Enough}
use Rattle.promises.specs.RoundTrip.{AreOctets}
use Rattle.promises.specs.Condition3.{framed_by}
use Rattle.promises.specs.Matched.{Matched}

-- ---- "a complete unknown element, by the unknown length rule"

-- octets that the rule finds to be one element, and whose IEI has no place in the table: with a place it would be an element of the
-- table, and the next one of its place a repeat. One that asks to be understood may be put in too
pub record Strange (t : List Row) (start : ℕ) (x : List ℕ) : Type 0 where
  pub complete : unknown_length start x ≡ some (length x)
  pub no_place : place_of t (iei_of (get_or x 0 0)) ≡ none

-- ---- "at the start of any element, or at the end of the part if its last element is not cut short"

-- an element that is not cut short: its form finds all its octets
abbrev pub Complete : List Row → ℕ → Element → Type 0
Complete t start e = whole (framed_by t start e) e.octets ≡ some (length e.octets)

-- where it may stand, by the elements in front of it and those behind: at the start of one, or behind the last, if there is one
unfoldable pub Slot : List Row → ℕ → List Element → List Element → Type 0
Slot t start front (e ∷ behind) = Unit
Slot t start [] [] = Unit
Slot t start (e ∷ []) [] = Complete t start e
Slot t start (e ∷ f ∷ front) [] = Slot t start (f ∷ front) []

-- the part with x put in behind the elements in front
unfoldable pub longer : List Element → List ℕ → List ℕ → List ℕ
longer front x part = take (length (joined front)) part ++ (x ++ drop (length (joined front)) part)

-- ---- "every former element keeps octets and verdict, those behind shifted by the inserted length"

-- the same element, so much later
unfoldable pub later : ℕ → Element → Element
later n e = record { at = e.at + n; octets = e.octets; place = e.place; verdict = e.verdict }

-- those in front as they were, the stranger, unknown, where it was put, and those behind later by its octets
unfoldable pub with_stranger : List Element → List ℕ → List Element → List Element
with_stranger front x behind = front ++ (stranger (length (joined front)) x ∷ map (later (length x)) behind)

-- ---- the whole

-- front and behind are the elements of the part, x is the stranger; l is lent to reading, set is the room for set octets, of which
-- none are used, and output is lent to writing
abbrev pub Strangers : Type 0
Strangers =
    (table : List ℕ) (start : ℕ) (option : Bool) (part x : List ℕ) (front behind : List Element) (l : Lent) (set output : List ℕ)
    -- "if the part decoded"
    → parted (rows_of table) start option part ≡ elements (front ++ behind)
    -- "put a complete unknown element .. at the start of any element, or at the end"
    → Strange (rows_of table) start x
    → Slot (rows_of table) start front behind
    -- "the longer one is at most 65,535 octets", of octets, under a table that passes the check
    → Readable table (longer front x part)
    → AreOctets (longer front x part)
    -- "with room for twice its length", a row for every place and enough output
    → Enough table (longer front x part) l
    → length (longer front x part) ≤ length output
    -- "the longer one decodes; every former element keeps .."
    → Matched table start option (longer front x part) l set output (λ es. es ≡ with_stranger front x behind)
