-- Why an element was set aside, by its definition: each answer with its number and values, and what the code finds it by.
use Rattle.std.specs.Prelude.{ℕ, List, [], ◌∷◌, ◌&&◌, not, get_or, set, take, drop, ltb, Option as Answered, Some, None, Result, Ok, Err}
use Rattle.definitions.specs.Basic.{pick, bit, Answer, answer}
use Rattle.definitions.specs.Rows.{Row}
use Rattle.definitions.specs.Elements.{Element as DefElement, Parted, elements, cut_short}
use Rattle.definitions.specs.Why.{Fault as DefFault, cut_off, under_least, kind_barred, fault_in, Why as DefWhy, was_accepted, was_unknown, was_malformed, was_repeated, was_out_of_sequence, why, at_number}
use Rattle.order.specs.declared.Placed.{Placed}
use Rattle.order.specs.declared.IgnoredIeReason.{IgnoredIeReason}
use Rattle.rows.specs.Numbers.{numbers_at, row_said}
use Rattle.elements.specs.Steps.{cut_of, cut_answer}
use Rattle.elements.specs.declared.element.Element.{Element}
use Rattle.why.specs.declared.Fault.{Fault}
use Rattle.why.specs.declared.Why.{Why}
use Rattle.why.specs.declared.WhyError.{WhyError}

-- ---- the answers

abbrev pub fault_for : DefFault → Fault
fault_for cut_off = Fault.CutShort
fault_for under_least = Fault.UnderLeast
fault_for kind_barred = Fault.KindBarred

abbrev pub why_for : DefWhy → Why
why_for was_accepted = Why.Accepted
why_for was_unknown = Why.Unknown
why_for (was_malformed f) = Why.Malformed (fault_for f)
why_for (was_repeated at) = Why.Repeated at
why_for (was_out_of_sequence at) = Why.OutOfSequence at

abbrev pub fault_as : Fault → ℕ
fault_as Fault.CutShort = 1
fault_as Fault.UnderLeast = 2
fault_as Fault.KindBarred = 3

-- the number and values of an answer
abbrev pub why_as : Result Why WhyError → Answer
why_as (Ok Why.Accepted) = answer 0 (0 ∷ [])
why_as (Ok Why.Unknown) = answer 0 (1 ∷ [])
why_as (Ok (Why.Malformed f)) = answer 0 (2 ∷ fault_as f ∷ [])
why_as (Ok (Why.Repeated at)) = answer 0 (3 ∷ at ∷ [])
why_as (Ok (Why.OutOfSequence at)) = answer 0 (4 ∷ at ∷ [])
why_as (Err WhyError.NoElement) = answer 27 []
why_as (Err (WhyError.CutShort c)) = cut_answer c
why_as (Err WhyError.TooLong) = answer 3 []
why_as (Err (WhyError.BadTable k)) = answer 4 (k ∷ [])
why_as (Err WhyError.NoTable) = answer 5 []

-- of some elements, and of a part by what it is
abbrev pub why_among : List Row → ℕ → List DefElement → Result Why WhyError
why_among t n es = at_number n es (Err WhyError.NoElement) (λ bs e. Ok (why_for (why t bs e)))

abbrev pub why_in : List Row → ℕ → Parted → Result Why WhyError
why_in t n (elements es) = why_among t n es
why_in t n (cut_short a x k m) = Err (WhyError.CutShort (cut_of a x k m))

-- ---- as the code finds it: by the starts of the first elements of the places

-- the starts with that of an element that has a place, if it is the first of it
unfoldable pub entered : ℕ → Answered ℕ → ℕ → List ℕ → List ℕ
entered places None at starts = starts
entered places (Some k) at starts = pick (ltb k 128 && not (bit k places)) (set starts k at) starts

-- the start entered for a place
unfoldable pub start_at : List ℕ → ℕ → ℕ
start_at starts k = pick (ltb k 128) (get_or starts k 0) 0

-- by the reason of an element with these octets, of a row and a place
abbrev pub aside_by : List ℕ → Row → List ℕ → ℕ → ℕ → IgnoredIeReason → Why
aside_by s r starts highest k IgnoredIeReason.Malformed = Why.Malformed (fault_for (fault_in r s))
aside_by s r starts highest k IgnoredIeReason.Repeated = Why.Repeated (start_at starts k)
aside_by s r starts highest k IgnoredIeReason.OutOfSequence = Why.OutOfSequence (start_at starts highest)

-- of an element with these octets, by its place if it has one and how it came
abbrev pub placed_by : List ℕ → List ℕ → List ℕ → ℕ → Answered ℕ → Placed → Why
placed_by s table starts highest k (Placed.Known iei) = Why.Accepted
placed_by s table starts highest k Placed.Unknown = Why.Unknown
placed_by s table starts highest None (Placed.Ignored reason) = Why.Unknown
placed_by s table starts highest (Some k) (Placed.Ignored reason) = aside_by s (row_said (numbers_at table k)) starts highest k reason

abbrev pub ground_by : List ℕ → List ℕ → List ℕ → ℕ → Element → Why
ground_by part table starts highest e = placed_by (take e.len (drop e.start part)) table starts highest e.place e.placed
