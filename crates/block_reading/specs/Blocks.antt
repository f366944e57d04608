-- The answer of reading into one block, and what it leaves in lent memory, by its definition.
use Rattle.std.specs.Prelude.{ℕ, ◌≡◌, List}
use Rattle.definitions.specs.Block.{ReadBlock}
use Rattle.filling.specs.Decodes.{Decoded, decoded_as}

-- the answer, and the lent memory at exit, are those of a reading into a block
pub record ReadsBlock (r : ReadBlock) (d : Decoded) (rows block : List ℕ) : Type 0 where
  pub answers : decoded_as d ≡ r.said
  pub rows_are : rows ≡ r.rows
  pub block-is : block ≡ r.block
