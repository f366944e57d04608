-- A table with its index.
use Rattle.std.specs.Prelude.{ℕ, ◌<◌, ◌≡◌, List, get_or}
use Rattle.std.proofs.Math.Option.{some}
use Rattle.definitions.specs.Rows.{rows_of, place_of, index_entry}
use Rattle.rows.specs.Numbers.{Whole}

-- an index of 256 octets whose entries are a table's, every place below 128, every row whole
pub record Indexed (table index : List ℕ) : Type 0 where
  pub entry : (iei : ℕ) → iei < 256 → get_or index iei 0 ≡ index_entry (rows_of table) iei
  pub below : (iei k : ℕ) → place_of (rows_of table) iei ≡ some k → k < 128
  pub whole : Whole table
