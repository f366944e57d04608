-- "Reading the optional part": the elements of a part, each with its verdict.
use Rattle.std.specs.Prelude.{ℕ, zero, suc, ◌+◌, ◌^◌, max, List, [], ◌∷◌, Bool, true, false, ◌&&◌, not, length, get_or, take, drop, ltb, leb, eqb}
use Rattle.std.proofs.Math.Option.{Option, none, some}
use Rattle.definitions.specs.Basic.{pick, bit, receivable}
use Rattle.definitions.specs.Rows.{Row, form, of_half, iei_of, place_of, row_at}
use Rattle.definitions.specs.Length.{header, whole, unknown_length, missing, required}

pub data Verdict : Type 0 where
  accepted : Verdict
  unknown : Verdict
  malformed : Verdict
  repeated : Verdict
  out_of_sequence : Verdict

unfoldable pub is_accepted : Verdict → Bool
is_accepted accepted = true
is_accepted unknown = false
is_accepted malformed = false
is_accepted repeated = false
is_accepted out_of_sequence = false

-- an element: where it starts, its octets, its place if it has one, its verdict
pub record Element : Type 0 where
  pub at : ℕ
  pub octets : List ℕ
  pub place : Option ℕ
  pub verdict : Verdict

-- the IEI of an element, by its first octet
unfoldable pub iei_at : Element → ℕ
iei_at e = iei_of (get_or e.octets 0 0)

-- ---- what was met: set-aside elements count too

-- the set of the places met, as a number whose bit k is place k's, and the highest of them: 0 while none was met, which is
-- above no place
pub record Met : Type 0 where
  pub places : ℕ
  pub highest : ℕ

abbrev pub nothing_met : Met
nothing_met = record { places = 0; highest = 0 }

-- a set with k in it
unfoldable pub including : ℕ → ℕ → ℕ
including k set = pick (bit k set) set (set + 2 ^ k)

unfoldable pub meet : ℕ → Met → Met
meet k m = record { places = including k m.places; highest = max k m.highest }

-- ---- an element that has a place

-- whether a complete element is one that its row takes: at least the least length, and receivable
unfoldable pub taken_by : Row → List ℕ → Bool
taken_by r e = leb r.least (length e) && receivable (of_half r) r.kinds (drop (header (form r)) e)

-- the same of the element at the front of s, by its whole length; one that is cut short is not taken
unfoldable pub taken : Row → Option ℕ → List ℕ → Bool
taken r none s = false
taken r (some n) s = taken_by r (take n s)

-- the verdict: accepted when taken, not repeated, and in sequence or the option is on; else the first reason that is true
unfoldable pub judged : Bool → Bool → Bool → Bool → Verdict
judged option again behind ok =
    pick again repeated
    (pick (behind && not (option && ok)) out_of_sequence
    (pick ok accepted malformed))

-- the octets of the element at the front of s; one that is cut short takes the rest
unfoldable pub octets_of : Option ℕ → List ℕ → List ℕ
octets_of none s = s
octets_of (some n) s = take n s

unfoldable pub known : List Row → Bool → Met → ℕ → List ℕ → ℕ → Element
known t option m at s k =
    let r : Row = row_at t k in
    let n : Option ℕ = whole (form r) s in
    record { at = at; octets = octets_of n s; place = some k; verdict = judged option (bit k m.places) (ltb k m.highest) (taken r n s) }

-- ---- one element at a time

-- what stands at the front of what is left: an element, and what was met with it; an unknown element that is cut short and
-- refused: its start, first octet, octets to the end and octets missing; or the end
pub data Step : Type 0 where
  next : Element → Met → Step
  cut : ℕ → ℕ → ℕ → ℕ → Step
  ended : Step

unfoldable pub stranger : ℕ → List ℕ → Element
stranger at e = record { at = at; octets = e; place = none; verdict = unknown }

-- an element without a place: as long as the unknown rule says; cut short, it is refused if required, else takes the rest
unfoldable pub stranger_step : ℕ → Met → ℕ → ℕ → List ℕ → Option ℕ → Step
stranger_step start m at x s (some n) = next (stranger at (take n s)) m
stranger_step start m at x s none = pick (required x) (cut at x (length s) (missing start s)) (next (stranger at s) m)

-- by the place of its IEI
unfoldable pub place_step : List Row → ℕ → Bool → Met → ℕ → ℕ → List ℕ → Option ℕ → Step
place_step t start option m at x s none = stranger_step start m at x s (unknown_length start s)
place_step t start option m at x s (some k) = next (known t option m at s k) (meet k m)

-- at a position, with what was met before it and the octets from there on
unfoldable pub step : List Row → ℕ → Bool → Met → ℕ → List ℕ → Step
step t start option m at [] = ended
step t start option m at (x ∷ xs) = place_step t start option m at x (x ∷ xs) (place_of t (iei_of x))

-- ---- the whole part

-- what a part is: its elements, or the unknown element that is cut short and refused
pub data Parted : Type 0 where
  elements : List Element → Parted
  cut_short : ℕ → ℕ → ℕ → ℕ → Parted

unfoldable pub before : Element → Parted → Parted
before e (elements es) = elements (e ∷ es)
before e (cut_short a x n m) = cut_short a x n m

-- by the step at the front, and what the part is behind an element of so many octets, with what was met by then
unfoldable pub step_then : Step → (Met → ℕ → Parted) → Parted
step_then ended rest = elements []
step_then (cut a x n k) rest = cut_short a x n k
step_then (next e m) rest = before e (rest m (length e.octets))

-- from a position on. Each element has an octet or more, so the octets that are left are count enough
unfoldable pub parted_f : List Row → ℕ → Bool → ℕ → Met → ℕ → List ℕ → Parted
parted_f t start option zero m at s = elements []
parted_f t start option (suc f) m at s = step_then (step t start option m at s) (λ m' n. parted_f t start option f m' (at + n) (drop n s))

unfoldable pub parted : List Row → ℕ → Bool → List ℕ → Parted
parted t start option s = parted_f t start option (length s) nothing_met 0 s

-- the elements of a part; none of one that is refused
unfoldable pub elements_of : Parted → List Element
elements_of (elements es) = es
elements_of (cut_short a x n m) = []

-- whether a place is an element's
unfoldable pub is_at : ℕ → Element → Bool
is_at k e = elim e.place [ none ↦ false | some j ↦ eqb j k ]
