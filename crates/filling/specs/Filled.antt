-- What filling arrays answers, and leaves in them, by a table and any index.
use Rattle.std.specs.Prelude.{ℕ, ◌*◌, ◌≡◌, List, Bool, ◌&&◌, length, replicate, leb, Result, Ok, Err}
use Rattle.definitions.specs.Basic.{pick, over, most_octets}
use Rattle.definitions.specs.Rows.{Row, rows_of}
use Rattle.definitions.specs.Elements.{Parted, elements, cut_short, parted}
use Rattle.definitions.specs.Logs.{kept_of, entries_of}
use Rattle.definitions.specs.Values.{place_width}
use Rattle.definitions.specs.Reading.{Lent}
use Rattle.by_index.specs.ByIndex.{rows_by}
use Rattle.plain_reading.specs.Entered.{entered_all}
use Rattle.elements.specs.Steps.{cut_of}
use Rattle.elements.specs.declared.walk.Tally.{Tally}
use Rattle.filling.specs.declared.FillError.{FillError}

pub record Fill : Type 0 where
  pub said : Result Tally FillError
  pub rows : List ℕ
  pub kept : List ℕ
  pub order : List ℕ

-- whether a part is not too long, and the arrays have four numbers for each place and twice the part's octets for each log
unfoldable pub holds : List ℕ → List ℕ → Lent → Bool
holds table part l =
    leb (length part) most_octets && (leb (place_width * length (rows_of table)) (length l.rows) && (leb (2 * length part) (length l.kept) && leb (2 * length part) (length l.order)))

-- the elements entered, or all cleared where the part is cut short
abbrev pub filled_in : List Row → Parted → Lent → Fill
filled_in t (elements es) l =
    record { said = Ok (record { kept = length (kept_of es); order = length (entries_of es) }); rows = entered_all t es l.rows; kept = over (kept_of es) l.kept; order = over (entries_of es) l.order }
filled_in t (cut_short a x n m) l =
    record { said = Err (FillError.CutShort (cut_of a x n m)); rows = replicate (length l.rows) 0; kept = replicate (length l.kept) 0; order = replicate (length l.order) 0 }

unfoldable pub filling : List ℕ → List ℕ → ℕ → Bool → List ℕ → Lent → Fill
filling table index start option part l =
    let t : List Row = rows_by table index in
    pick (holds table part l) (filled_in t (parted t start option part) l) (record { said = Err FillError.NoRoom; rows = l.rows; kept = l.kept; order = l.order })

-- the answer, and the arrays at exit
pub record Leaves (f : Fill) (r : Result Tally FillError) (rows kept order : List ℕ) : Type 0 where
  pub answers : r ≡ f.said
  pub rows_are : rows ≡ f.rows
  pub kept-is : kept ≡ f.kept
  pub order_is : order ≡ f.order
