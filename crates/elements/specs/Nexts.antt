-- One element at a time by a lent table: the table check, the limit, and the definition's step.
use Rattle.std.specs.Prelude.{ℕ, List, Bool, length, ltb, Option as Answered, Result, Ok, Err}
use Rattle.std.proofs.Math.Option.{Option, none, some}
use Rattle.definitions.specs.Basic.{pick, most_octets}
use Rattle.definitions.specs.Rows.{Row, first_bad}
use Rattle.elements.specs.Steps.{stands_at}
use Rattle.elements.specs.declared.element.State.{State}
use Rattle.elements.specs.declared.element.Element.{Element}
use Rattle.elements.specs.declared.element.Cut.{Cut}
use Rattle.elements.specs.declared.next.NextError.{NextError}

-- where reading begins: at the first octet, nothing met
abbrev pub start_state : State
start_state = record { at = 0; seen = record { low = 0; high = 0 }; highest = 0 }

-- what is answered: an element with the state behind it, or none; or a refusal
abbrev pub Next : Type 0
Next = Result (Answered (Element × State)) NextError

abbrev pub next_as : Result (Answered (Element × State)) Cut → Next
next_as (Ok x) = Ok x
next_as (Err c) = Err (NextError.CutShort c)

-- a part over the limit is not read
unfoldable pub next_from : List Row → ℕ → Bool → List ℕ → State → Next
next_from t start option part s =
    pick (ltb most_octets (length part)) (Err NextError.TooLong) (next_as (stands_at t start option part s))

-- nor one by a table that fails its check
abbrev pub next_by : Option ℕ → Next → Next
next_by (some k) n = Err (NextError.BadTable k)
next_by none n = n

unfoldable pub next_of : List Row → ℕ → Bool → List ℕ → State → Next
next_of t start option part s = next_by (first_bad t) (next_from t start option part s)
