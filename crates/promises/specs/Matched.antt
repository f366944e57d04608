-- What condition 3 and the strangers share: another part, read in the place of one that decodes, whose elements match.
use Rattle.std.specs.Prelude.{ℕ, ◌≡◌, List, Bool}
use Rattle.definitions.specs.Rows.{rows_of}
use Rattle.definitions.specs.Elements.{Element, elements, parted}
use Rattle.definitions.specs.Reading.{Lent, reading}
use Rattle.promises.specs.RoundTrip.{written_back, gives}

-- what is promised of the other part b, read with the same table, start number and option: it decodes, and reading it is done; its
-- elements match; and writing the untouched result gives exactly its octets
pub record Matched (table : List ℕ) (start : ℕ) (option : Bool) (b : List ℕ) (l : Lent) (set output : List ℕ) (Match : List Element → Type 0) : Type 0 where
  pub elements' : List Element
  pub decodes : parted (rows_of table) start option b ≡ elements elements'
  pub done : (reading table start option b l).said.number ≡ 0
  pub each : Match elements'
  pub written : written_back table b (reading table start option b l) set output ≡ gives b output
