-- One element at a time through the C interface: the state as four lent numbers, and what a call answers.
use Rattle.std.specs.Prelude.{ℕ, ◌≡◌, List, [], ◌∷◌, get_or, Option as Answered, Some, None, Ok, Err}
use Rattle.definitions.specs.Basic.{Answer, answer}
use Rattle.order.specs.declared.Placed.{Placed}
use Rattle.order.specs.declared.IgnoredIeReason.{IgnoredIeReason}
use Rattle.elements.specs.declared.element.State.{State}
use Rattle.elements.specs.declared.next.NextError.{NextError}
use Rattle.elements.specs.Nexts.{Next}
use Rattle.elements.specs.Steps.{cut_answer}
use Rattle.answers.specs.Says.{put, Says}

-- position, places met from 0 to 63 and from 64 to 127, highest place
abbrev pub state_by : List ℕ → State
state_by s = record { at = get_or s 0 0; seen = record { low = get_or s 1 0; high = get_or s 2 0 }; highest = get_or s 3 0 }

abbrev pub state_numbers : State → List ℕ
state_numbers s = s.at ∷ s.seen.low ∷ s.seen.high ∷ s.highest ∷ []

-- how an element came: 0 accepted, 1 unknown, 2 malformed, 3 repeated, 4 out of sequence
abbrev pub verdict_number : Placed → ℕ
verdict_number (Placed.Known iei) = 0
verdict_number Placed.Unknown = 1
verdict_number (Placed.Ignored IgnoredIeReason.Malformed) = 2
verdict_number (Placed.Ignored IgnoredIeReason.Repeated) = 3
verdict_number (Placed.Ignored IgnoredIeReason.OutOfSequence) = 4

-- the place of an element, 255 where it has none
abbrev pub place_number : Answered ℕ → ℕ
place_number None = 255
place_number (Some k) = k

-- an element by its length, IEI, place or 255, and how it came
abbrev pub next_answer : Next → Answer
next_answer (Ok (Some p)) = answer 0 (p.0.len ∷ p.0.iei ∷ place_number p.0.place ∷ verdict_number p.0.placed ∷ [])
next_answer (Ok None) = answer 0 []
next_answer (Err (NextError.CutShort c)) = cut_answer c
next_answer (Err NextError.TooLong) = answer 3 []
next_answer (Err (NextError.BadTable k)) = answer 4 (k ∷ [])

-- the lent state afterwards: behind the element, else as it was
abbrev pub state_after : Next → List ℕ → List ℕ
state_after (Ok (Some p)) lent = put (state_numbers p.1) lent
state_after (Ok None) lent = lent
state_after (Err e) lent = lent

pub record NextSays (n : Next) (number : ℕ) (before after lent left : List ℕ) : Type 0 where
  pub says : Says (next_answer n) number before after
  pub state-is : left ≡ state_after n lent
