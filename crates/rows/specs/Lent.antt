-- Numbers put into lent rows.
use Rattle.std.specs.Prelude.{ℕ, ◌+◌, List, length, leb}
use Rattle.definitions.specs.Basic.{pick, over_at}

-- from a position on, if there is room for all of them; else the rows are as they were
unfoldable pub put_row : ℕ → List ℕ → List ℕ → List ℕ
put_row at numbers rows = pick (leb (at + length numbers) (length rows)) (over_at at numbers rows) rows
