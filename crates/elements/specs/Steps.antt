-- A step of reading by the definition of a step: each answer, as the numbers that the code holds.
use Rattle.std.specs.Prelude.{ℕ, ◌+◌, max, List, [], ◌∷◌, Bool, length, drop, ltb, Option as Answered, Some, None, Result, Ok, Err}
use Rattle.std.proofs.Math.Option.{Option, none, some}
use Rattle.definitions.specs.Basic.{Answer, answer, pick}
use Rattle.definitions.specs.Rows.{Row, form}
use Rattle.definitions.specs.Length.{whole, required}
use Rattle.definitions.specs.Elements.{Verdict, accepted, unknown, malformed, repeated, out_of_sequence, judged, taken, octets_of, Element as DefElement, iei_at, Met, Step as DefStep, next, cut, ended, step}
use Rattle.order.specs.declared.Placed.{Placed}
use Rattle.order.specs.declared.IgnoredIeReason.{IgnoredIeReason}
use Rattle.seen.specs.Seen.{set_of, seen_of, including_place}
use Rattle.elements.specs.declared.element.State.{State}
use Rattle.elements.specs.declared.element.Element.{Element}
use Rattle.elements.specs.declared.element.Cut.{Cut}
use Rattle.elements.specs.declared.element.Fit.{Fit}
use Rattle.elements.specs.declared.element.Came.{Came}
use Rattle.length.specs.declared.CutShort.{CutShort}

-- how an element with an IEI came, by its verdict
abbrev pub placed_for : ℕ → Verdict → Placed
placed_for iei accepted = Placed.Known iei
placed_for iei unknown = Placed.Unknown
placed_for iei malformed = Placed.Ignored IgnoredIeReason.Malformed
placed_for iei repeated = Placed.Ignored IgnoredIeReason.Repeated
placed_for iei out_of_sequence = Placed.Ignored IgnoredIeReason.OutOfSequence

-- the place that an element has, as the code says it
abbrev pub place_of : Option ℕ → Answered ℕ
place_of none = None
place_of (some k) = Some k

-- an element: start, length, IEI, place, how it came
unfoldable pub element_of : DefElement → Element
element_of e = record { start = e.at; len = length e.octets; iei = iei_at e; place = place_of e.place; placed = placed_for (iei_at e) e.verdict }

-- what a state has met, and the state behind an element
abbrev pub met_of : State → Met
met_of s = record { places = set_of s.seen; highest = s.highest }

unfoldable pub state_of : DefElement → Met → State
state_of e m = record { at = e.at + length e.octets; seen = seen_of m.places; highest = m.highest }

-- an unknown element that is cut short, by its start, first octet, octets to the end and octets missing
abbrev pub cut_of : ℕ → ℕ → ℕ → ℕ → Cut
cut_of a x n k = record { start = a; first = x; left = n; missing = k }

-- refusal 1, which such an element is
abbrev pub cut_answer : Cut → Answer
cut_answer c = answer 1 (c.start ∷ c.first ∷ c.left ∷ c.missing ∷ [])

abbrev pub step_of : DefStep → Result (Answered (Element × State)) Cut
step_of (next e m) = Ok (Some (element_of e, state_of e m))
step_of (cut a x n k) = Err (cut_of a x n k)
step_of ended = Ok None

-- what stands at a state's position, by rows
abbrev pub stands_at : List Row → ℕ → Bool → List ℕ → State → Result (Answered (Element × State)) Cut
stands_at t start option part s = step_of (step t start option (met_of s) s.at (drop s.at part))

-- ---- as the code finds a step: how the element came, and the state behind it

-- an element that has a place, by its row
unfoldable pub fit_of : Row → List ℕ → Fit
fit_of r s = let n : Option ℕ = whole (form r) s in record { len = length (octets_of n s); taken = taken r n s }

abbrev pub came_known : Row → ℕ → Bool → Bool → Bool → List ℕ → Came
came_known r iei option again behind s = record { len = (fit_of r s).len; placed = placed_for iei (judged option again behind (fit_of r s).taken) }

-- an element without one, by its first octet, the octets missing and its length
abbrev pub came_strange : ℕ → ℕ → List ℕ → Option ℕ → Result Came CutShort
came_strange x m s (some n) = Ok (record { len = n; placed = Placed.Unknown })
came_strange x m s none = pick (required x) (Err (record { missing = m })) (Ok (record { len = length s; placed = Placed.Unknown }))

-- the state behind an element that ends at a position, by its place if it has one; and behind one of so many octets
abbrev pub state_at : State → Answered ℕ → ℕ → State
state_at s None at = record { at = at; seen = s.seen; highest = s.highest }
state_at s (Some k) at = record { at = at; seen = seen_of (including_place k (set_of s.seen)); highest = max k s.highest }

abbrev pub state_after : State → Answered ℕ → ℕ → State
state_after s k n = state_at s k (s.at + n)

-- the step of a state: the first octet, its IEI, its place, the octets that are left, how the element came
abbrev pub found_at : State → ℕ → ℕ → Answered ℕ → ℕ → Result Came CutShort → Result (Answered (Element × State)) Cut
found_at s x iei k left (Ok c) = Ok (Some (record { start = s.at; len = c.len; iei = iei; place = k; placed = c.placed }, state_after s k c.len))
found_at s x iei k left (Err e) = Err (cut_of s.at x left e.missing)

-- ---- by a table and any index

-- the place that an index's entry is, if it is one
unfoldable pub place_at : ℕ → Answered ℕ
place_at e = pick (ltb e 128) (Some e) None
