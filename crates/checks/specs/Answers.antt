-- The answer of this crate by the definition of what it answers.
use Rattle.std.specs.Prelude.{ℕ, Result, Ok, Err}
use Rattle.std.proofs.Math.Option.{Option, none, some}
use Rattle.checks.specs.declared.BadRow.{BadRow}

-- the first bad row, if there is one
abbrev pub checked_as : Result Unit BadRow → Option ℕ
checked_as (Ok x) = none
checked_as (Err bad) = some bad.0
