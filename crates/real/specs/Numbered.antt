-- What a number names: a table's rows and their index, or nothing.
use Rattle.std.specs.Prelude.{ℕ, ◌≡◌, Option as Answered, Some, None}
use Rattle.std.proofs.Math.Option.{none, some}
use Rattle.definitions.specs.Rows.{rows_of, index}
use Rattle.definitions.specs.Tables.{table_of}
use Rattle.real.specs.declared.Table.{Table}

abbrev pub IsNumbered : ℕ → Answered Table → Type 0
IsNumbered n None = table_of n ≡ none
IsNumbered n (Some t) = (table_of n ≡ some t.rows.now) × (t.index.now ≡ index (rows_of t.rows.now))
