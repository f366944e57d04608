-- A part of which a table and any index say all, by the rows that the two say; by the table's own index these read as the table does.
use Rattle.std.specs.Prelude.{ℕ, ◌*◌, ◌≡◌, List, Bool, ◌&&◌, length, replicate, leb}
use Rattle.definitions.specs.Basic.{pick, over, most_octets}
use Rattle.definitions.specs.Rows.{rows_of, most_places}
use Rattle.definitions.specs.Values.{place_width}
use Rattle.definitions.specs.Elements.{elements_of, parted}
use Rattle.by_index.specs.ByIndex.{rows_by}
use Rattle.plain_reading.specs.Entered.{entered_all}
use Rattle.plain_reading.specs.Plains.{plain_in}

-- whether a part is not too long, a table has no more places than one that passes, and so many numbers are four or more for each of them
unfoldable pub holds : List ℕ → List ℕ → ℕ → Bool
holds table part room =
    leb (length part) most_octets && (leb (length (rows_of table)) most_places && leb (place_width * length (rows_of table)) room)

-- the answer; and the rows at exit, with each element entered among cleared numbers, where it is true
pub record PlainBy (table index : List ℕ) (start : ℕ) (option : Bool) (part rows : List ℕ) (r : Bool) (rows' : List ℕ) : Type 0 where
  pub is : r ≡ (holds table part (length rows) && plain_in (rows_by table index) 0 (parted (rows_by table index) start option part))
  pub rows_are :
      rows' ≡ pick r (entered_all (rows_by table index) (elements_of (parted (rows_by table index) start option part)) (over (replicate (place_width * length (rows_of table)) 0) rows)) rows
