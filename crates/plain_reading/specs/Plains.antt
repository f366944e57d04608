-- A part of which the table says all: whether it is one, and its rows.
use Rattle.std.specs.Prelude.{ℕ, ◌≡◌, List, Bool, false}
use Rattle.std.proofs.Math.Option.{Option, none, some}
use Rattle.definitions.specs.Basic.{pick, over}
use Rattle.definitions.specs.Rows.{Row}
use Rattle.definitions.specs.Elements.{Parted, elements, cut_short, elements_of}
use Rattle.definitions.specs.Logs.{plain_from}
use Rattle.definitions.specs.Reading.{place_rows}
use Rattle.plain_reading.specs.Entered.{entered_all}

-- whether the table says all of a part, where no place below the least may come
abbrev pub plain_in : List Row → ℕ → Parted → Bool
plain_in t least (elements es) = plain_from t least es
plain_in t least (cut_short a x n m) = false

-- the rows with every element of such a part entered; none of another part
abbrev pub plain_rows : List Row → ℕ → Parted → List ℕ → Option (List ℕ)
plain_rows t least (elements es) rows = pick (plain_from t least es) (some (entered_all t es rows)) none
plain_rows t least (cut_short a x n m) rows = none

-- the answer for a part, and the rows at exit
pub record Plainly (t : List Row) (p : Parted) (r : Bool) (rows rows' : List ℕ) : Type 0 where
  pub is : r ≡ plain_in t 0 p
  pub rows_are : rows' ≡ pick r (over (place_rows t (elements_of p)) rows) rows
