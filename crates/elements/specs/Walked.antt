-- So many elements from a state on: where reading is behind them, how the last one came, and what they need of the logs.
use Rattle.std.specs.Prelude.{ℕ, zero, suc, ◌+◌, List, Bool, length, Option as Answered, Some, None, Result, Ok, Err}
use Rattle.definitions.specs.Rows.{Row}
use Rattle.definitions.specs.Logs.{leb128, order_entry}
use Rattle.order.specs.Order.{placed_as}
use Rattle.order.specs.declared.Placed.{Placed}
use Rattle.elements.specs.Steps.{stands_at}
use Rattle.elements.specs.declared.element.State.{State}
use Rattle.elements.specs.declared.element.Element.{Element}
use Rattle.elements.specs.declared.element.Cut.{Cut}
use Rattle.elements.specs.declared.walk.Tally.{Tally}
use Rattle.elements.specs.declared.walk.Walk.{Walk}

-- ---- what they need: the octets of the kept log, and of an order log with an entry for each element

abbrev pub no_tally : Tally
no_tally = record { kept = 0; order = 0 }

-- the octets of an element in the kept log, by its length and how it came: its count and itself, if no row took it
abbrev pub kept_need : ℕ → Placed → ℕ
kept_need len (Placed.Known iei) = 0
kept_need len Placed.Unknown = length (leb128 len) + len
kept_need len (Placed.Ignored r) = length (leb128 len) + len

-- with an element more
unfoldable pub tallied : Tally → ℕ → Placed → Tally
tallied c len p = record { kept = c.kept + kept_need len p; order = c.order + length (order_entry (placed_as p)) }

-- ---- the walk

abbrev pub begun : State → Walk
begun s = record { state = s; placed = Placed.Unknown; needs = no_tally }

-- behind an element, by the state there
abbrev pub walked_on : Walk → Element → State → Walk
walked_on w e v = record { state = v; placed = e.placed; needs = tallied w.needs e.len e.placed }

-- by what stands at the state, and what comes from behind an element on
unfoldable pub on_step : Result (Answered (Element × State)) Cut → Walk → (Walk → Result Walk Cut) → Result Walk Cut
on_step (Ok (Some p)) w rest = rest (walked_on w p.0 p.1)
on_step (Ok None) w rest = Ok w
on_step (Err c) w rest = Err c

-- so many steps of reading, at most
unfoldable pub stepped : List Row → ℕ → Bool → List ℕ → ℕ → Walk → Result Walk Cut
stepped t start option part zero w = Ok w
stepped t start option part (suc n) w = on_step (stands_at t start option part w.state) w (stepped t start option part n)
