-- Room: how much of the lent memory is enough for reading.
use Rattle.std.specs.Prelude.{ℕ, ◌*◌, ◌≤◌, ◌≡◌, List, Bool, length}
use Rattle.std.proofs.Math.Option.{none}
use Rattle.definitions.specs.Basic.{most_octets}
use Rattle.definitions.specs.Rows.{Row, rows_of, first_bad}
use Rattle.definitions.specs.Elements.{Element, elements, parted}
use Rattle.definitions.specs.Logs.{kept_of, order_of}
use Rattle.definitions.specs.Values.{place_width}
use Rattle.definitions.specs.Reading.{Lent, reading}

-- each log of a part that decodes takes at most twice the part's octets
abbrev pub LogsRoom : Type 0
LogsRoom =
    (t : List Row) (start : ℕ) (option : Bool) (part : List ℕ) (es : List Element) → parted t start option part ≡ elements es
    → (length (kept_of es) ≤ 2 * length part) × (length (order_of t es) ≤ 2 * length part)

-- a table that passes the check, and a part of at most 65,535 octets
pub record Readable (table part : List ℕ) : Type 0 where
  pub passes : first_bad (rows_of table) ≡ none
  pub short : length part ≤ most_octets

-- a row of four numbers for every place, and two logs, each with room for twice a part's length
pub record Enough (table part : List ℕ) (l : Lent) : Type 0 where
  pub rows : place_width * length (rows_of table) ≤ length l.rows
  pub kept : 2 * length part ≤ length l.kept
  pub order : 2 * length part ≤ length l.order

-- with that, reading is done, unless it refuses with 1
abbrev pub ReadingDone : Type 0
ReadingDone =
    (table : List ℕ) (start : ℕ) (option : Bool) (part : List ℕ) (l : Lent) → Readable table part → Enough table part l
    → ((reading table start option part l).said.number ≡ 1 → ⊥) → (reading table start option part l).said.number ≡ 0
