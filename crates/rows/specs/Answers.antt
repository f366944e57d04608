-- The answer of `place_of` by the definition of what it answers.
use Rattle.std.specs.Prelude.{ℕ, Option as Answered, Some, None}
use Rattle.std.proofs.Math.Option.{Option, none, some}

-- the place of an IEI, if it has one
abbrev pub place_as : Answered ℕ → Option ℕ
place_as None = none
place_as (Some k) = some k
