-- What the text of an answer tells.
use Rattle.std.specs.Prelude.{Bool, not, eqb}
use Rattle.definitions.specs.Basic.{Answer}

-- whether it is a refusal
abbrev pub refuses : Answer → Bool
refuses a = not (eqb a.number 0)
