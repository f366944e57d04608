-- What an element found leaves in the lent rows and logs, by how it came.
use Rattle.std.specs.Prelude.{ℕ, ◌+◌, ◌*◌, ◌-◌, ◌≤◌, ◌<◌, List, [], ◌∷◌, Bool, length, take, drop, replicate, ◌≡◌, Option as Answered, Some, None, Result, Ok, Err}
use Rattle.definitions.specs.Basic.{over, over_at}
use Rattle.definitions.specs.Rows.{Row, rows_of, form}
use Rattle.definitions.specs.Elements.{Element as DefElement, Parted, elements, cut_short, elements_of, parted}
use Rattle.definitions.specs.Logs.{kept_entry, order_entry, kept_of, entries_of}
use Rattle.definitions.specs.Length.{header}
use Rattle.order.specs.Order.{placed_as}
use Rattle.order.specs.declared.Placed.{Placed}
use Rattle.rows.specs.Numbers.{numbers_at, row_said}
use Rattle.by_index.specs.ByIndex.{rows_by}
use Rattle.elements.specs.declared.element.Element.{Element}
use Rattle.plain_reading.specs.Entered.{before, entered_all}
use Rattle.elements.specs.declared.element.Cut.{Cut}
use Rattle.elements.specs.declared.walk.Tally.{Tally}

-- ---- the place rows

-- an accepted element's row is there, and its numbers are of 32 bits
abbrev pub RowFitsBy : List Row → Answered ℕ → ℕ → ℕ → List ℕ → Placed → Type 0
RowFitsBy t place start len rows Placed.Unknown = Unit
RowFitsBy t place start len rows (Placed.Ignored r) = Unit
RowFitsBy t None start len rows (Placed.Known iei) = ⊥
RowFitsBy t (Some place) start len rows (Placed.Known iei) = (4 * place + 4 ≤ length rows) × (before t place ≤ len) × (start + len < 65536) × (place < 128)

abbrev pub RowFits : List Row → Element → List ℕ → Type 0
RowFits t e rows = RowFitsBy t e.place e.start e.len rows e.placed

-- the same by a row's numbers, which are 0 of a row that the table has not
abbrev pub head_said : List ℕ → ℕ → ℕ
head_said table place = header (form (row_said (numbers_at table place)))

abbrev pub SaidFitsBy : List ℕ → Answered ℕ → ℕ → ℕ → List ℕ → Placed → Type 0
SaidFitsBy table place start len rows Placed.Unknown = Unit
SaidFitsBy table place start len rows (Placed.Ignored r) = Unit
SaidFitsBy table None start len rows (Placed.Known iei) = ⊥
SaidFitsBy table (Some place) start len rows (Placed.Known iei) = (4 * place + 4 ≤ length rows) × (head_said table place ≤ len) × (start + len < 65536)

abbrev pub SaidFits : List ℕ → Element → List ℕ → Type 0
SaidFits table e rows = SaidFitsBy table e.place e.start e.len rows e.placed

abbrev pub said_by : List ℕ → Answered ℕ → ℕ → ℕ → List ℕ → Placed → List ℕ
said_by table place start len rows Placed.Unknown = rows
said_by table place start len rows (Placed.Ignored r) = rows
said_by table None start len rows (Placed.Known iei) = rows
said_by table (Some place) start len rows (Placed.Known iei) = over_at (4 * place) (1 ∷ (start + head_said table place) ∷ (len - head_said table place) ∷ iei ∷ []) rows

unfoldable pub said_entered : List ℕ → Element → List ℕ → List ℕ
said_entered table e rows = said_by table e.place e.start e.len rows e.placed

-- ---- the kept log

-- the entry of an element: none of one that is accepted
abbrev pub entry_by : List ℕ → Placed → List ℕ
entry_by octets (Placed.Known iei) = []
entry_by octets Placed.Unknown = kept_entry octets
entry_by octets (Placed.Ignored r) = kept_entry octets

unfoldable pub kept_of_found : Element → List ℕ → List ℕ
kept_of_found e octets = entry_by (take e.len (drop e.start octets)) e.placed

-- ---- the order log

-- the entry of an element
abbrev pub note_by : Placed → List ℕ
note_by p = order_entry (placed_as p)

-- ---- a whole part

-- the octets used of each log, and what is then in the rows and logs; or the unknown element that is cut short
pub data Outcome : Type 0 where
  done : ℕ → ℕ → List ℕ → List ℕ → List ℕ → Outcome
  cut : ℕ → ℕ → ℕ → ℕ → Outcome

-- a part entered behind so many octets of each log
abbrev pub filled_from : List Row → Parted → ℕ → ℕ → List ℕ → List ℕ → List ℕ → Outcome
filled_from t (elements es) k o rows kept order =
    done (k + length (kept_of es)) (o + length (entries_of es)) (entered_all t es rows) (over_at k (kept_of es) kept) (over_at o (entries_of es) order)
filled_from t (cut_short a x n m) k o rows kept order = cut a x n m

-- what the code answers and leaves
abbrev pub outcome : Result Tally Cut → List ℕ → List ℕ → List ℕ → Outcome
outcome (Ok t) rows kept order = done t.kept t.order rows kept order
outcome (Err c) rows kept order = cut c.start c.first c.left c.missing

-- room behind so many octets of each log: for what a part that decodes needs, or for twice its octets, which is as much as any needs
pub data Room (p : Parted) (left k o kept order : ℕ) : Type 0 where
  exact : p ≡ elements (elements_of p) → k + length (kept_of (elements_of p)) ≤ kept → o + length (entries_of (elements_of p)) ≤ order → Room p left k o kept order
  twice : k + 2 * left ≤ kept → o + 2 * left ≤ order → Room p left k o kept order

-- a part with room for n numbers of rows and for its logs
pub record Ready (t : List Row) (n start : ℕ) (option : Bool) (part rows kept order : List ℕ) : Type 0 where
  pub short : length part ≤ 65535
  pub rows-room : n ≤ length rows
  pub room : Room (parted t start option part) (length part) 0 0 (length kept) (length order)

-- by a table and an index
abbrev pub ReadyBy : List ℕ → List ℕ → ℕ → Bool → List ℕ → List ℕ → List ℕ → List ℕ → Type 0
ReadyBy table index = Ready (rows_by table index) (4 * length (rows_of table))

-- what is written of a part that decodes: its elements' rows among n cleared numbers, and both logs
pub record Written (t : List Row) (n : ℕ) (es : List DefElement) (rows kept order rows' kept' order' : List ℕ) : Type 0 where
  pub rows_are : rows' ≡ entered_all t es (over (replicate n 0) rows)
  pub kept-is : kept' ≡ over (kept_of es) kept
  pub order_is : order' ≡ over (entries_of es) order
