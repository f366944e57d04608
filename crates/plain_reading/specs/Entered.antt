-- The rows of the places, entered element by element.
use Rattle.std.specs.Prelude.{ℕ, ◌+◌, ◌*◌, ◌-◌, List, [], ◌∷◌, Option as Answered, Some, None}
use Rattle.definitions.specs.Basic.{over_at}
use Rattle.definitions.specs.Rows.{Row, row_at, form}
use Rattle.definitions.specs.Elements.{Element as DefElement}
use Rattle.definitions.specs.Length.{header}
use Rattle.order.specs.declared.Placed.{Placed}
use Rattle.elements.specs.Steps.{element_of}
use Rattle.elements.specs.declared.element.Element.{Element}

-- the octets before the value of an element of a place
abbrev pub before : List Row → ℕ → ℕ
before t place = header (form (row_at t place))

abbrev pub row_by : List Row → Answered ℕ → ℕ → ℕ → List ℕ → Placed → List ℕ
row_by t place start len rows Placed.Unknown = rows
row_by t place start len rows (Placed.Ignored r) = rows
row_by t None start len rows (Placed.Known iei) = rows
row_by t (Some place) start len rows (Placed.Known iei) = over_at (4 * place) (1 ∷ (start + before t place) ∷ (len - before t place) ∷ iei ∷ []) rows

unfoldable pub row_entered : List Row → Element → List ℕ → List ℕ
row_entered t e rows = row_by t e.place e.start e.len rows e.placed

-- the rows with every element entered, one after the other
unfoldable pub entered_all : List Row → List DefElement → List ℕ → List ℕ
entered_all t [] rows = rows
entered_all t (e ∷ es) rows = entered_all t es (row_entered t (element_of e) rows)
