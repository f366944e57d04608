-- Condition 3, in the customer's words, sentence by sentence; the statement is `Condition3`, at the end.
use Rattle.std.specs.Prelude.{ℕ, ◌/◌, ◌≤◌, ◌<◌, ◌≡◌, List, [], ◌∷◌, Bool, length, get_or, take, drop}
use Rattle.std.proofs.Math.Option.{none, some}
use Rattle.definitions.specs.Rows.{Row, Form, rows_of, row_at, form}
use Rattle.definitions.specs.Length.{header, unknown_form}
use Rattle.definitions.specs.Elements.{Verdict, accepted, unknown, malformed, repeated, out_of_sequence, Element, elements, parted}
use Rattle.definitions.specs.Reading.{Lent}
use Rattle.promises.specs.Room.{Readable, Enough}
use Rattle.promises.specs.RoundTrip.{AreOctets}
use Rattle.promises.specs.Matched.{Matched}

-- ---- "Change value octets of any elements, with every IEI and length kept; where an element's first octet is 0x80 or more,
-- its value is the low four bits and only these change."

-- the form that frames an element: its place's, or the unknown rule's by its first octet
unfoldable pub framed_by : List Row → ℕ → Element → Form
framed_by t start e = elim e.place [ none ↦ unknown_form start (get_or e.octets 0 0) | some k ↦ form (row_at t k) ]

-- b is the octets a of an element of form f with other value octets. Where a begins below 0x80 the IEI and the full length
-- field are kept, which are the octets in front of the value; where that field is cut they are all there is, so b is a.
-- Where it begins from 0x80 up, which by the table check is an element of form half, the upper four bits of that octet are
-- kept, and whatever stands behind it
pub record Revalued (f : Form) (a b : List ℕ) : Type 0 where
  pub as_long : length b ≡ length a
  pub header-kept : get_or a 0 0 < 128 → take (header f) b ≡ take (header f) a
  pub upper-kept : 128 ≤ get_or a 0 0 → (get_or b 0 0 / 16 ≡ get_or a 0 0 / 16) × (drop 1 b ≡ drop 1 a)

-- b is the part a, whose elements are given, with other value octets: element by element, to the end of both
unfoldable pub Changed : List Row → ℕ → List Element → List ℕ → List ℕ → Type 0
Changed t start [] a b = (a ≡ []) × (b ≡ [])
Changed t start (e ∷ es) a b =
    Revalued (framed_by t start e) (take (length e.octets) a) (take (length e.octets) b)
    × Changed t start es (drop (length e.octets) a) (drop (length e.octets) b)

-- ---- "each unchanged element keeps its place, octets and verdict; a changed one can only move between accepted and set
-- aside, and only if it is no repeat"

-- set aside, and no repeat
unfoldable pub Aside : Verdict → Type 0
Aside accepted = ⊥
Aside unknown = ⊥
Aside malformed = Unit
Aside repeated = ⊥
Aside out_of_sequence = Unit

-- how a verdict may move: not at all, from accepted to set aside, or back
pub data Moves : Verdict → Verdict → Type 0 where
  stays : (v : Verdict) → Moves v v
  falls : (v : Verdict) → Aside v → Moves accepted v
  rises : (v : Verdict) → Aside v → Moves v accepted

-- e' is what became of the element e in the part b: it starts where e did, has as many octets, those that b has there, and
-- its place; it is e where these octets are unchanged; and its verdict moves at most as said
pub record Became (b : List ℕ) (e e' : Element) : Type 0 where
  pub starts : e'.at ≡ e.at
  pub octets : e'.octets ≡ take (length e.octets) (drop e.at b)
  pub as_long : length e'.octets ≡ length e.octets
  pub place : e'.place ≡ e.place
  pub unchanged : e'.octets ≡ e.octets → e' ≡ e
  pub verdict : Moves e.verdict e'.verdict

-- one by one
pub data EachBecame (b : List ℕ) : List Element → List Element → Type 0 where
  no_more : EachBecame b [] []
  and-next : {e e' : Element} {es es' : List Element} → Became b e e' → EachBecame b es es' → EachBecame b (e ∷ es) (e' ∷ es')

-- ---- the whole

-- what is promised of the changed part b, read with the same start number and option: "by the definitions the changed part ..
-- decodes too", and reading it is done; "each unchanged element keeps ..; a changed one can only move .."; "writing the untouched
-- result .. gives exactly the changed octets"
abbrev pub Kept : List ℕ → ℕ → Bool → List Element → List ℕ → Lent → List ℕ → List ℕ → Type 0
Kept table start option es b l set output = Matched table start option b l set output (EachBecame b es)

-- a is the part, es its elements, b the changed part; l is lent to reading, set is the room for set octets, of which none
-- are used, and output is lent to writing
abbrev pub Condition3 : Type 0
Condition3 =
    (table : List ℕ) (start : ℕ) (option : Bool) (a b : List ℕ) (es : List Element) (l : Lent) (set output : List ℕ)
    -- "take a table that passes the table check, an optional part of at most 65,535 octets"
    → Readable table a
    -- "that decodes"
    → parted (rows_of table) start option a ≡ elements es
    -- "a row for every place, and two logs, each with room for twice the part's length"
    → Enough table a l
    -- "change value octets of any elements", to octets
    → Changed (rows_of table) start es a b
    → AreOctets b
    -- "with enough output room"
    → length a ≤ length output
    → Kept table start option es b l set output
