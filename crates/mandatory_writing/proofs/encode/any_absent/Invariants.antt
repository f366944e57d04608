-- `any_absent` looks at a row a turn, up to one that is absent.
-- The invariant is the law of the rows before.
use mathlib.Core.Bool.{not}
use Rattle.definitions.specs.Values.{mandatory_width, value_in, present}
use Rattle.mandatory_writing.proofs.Searching.{Searching}
use Rattle.mandatory_writing.proofs.encode.any_absent.Given as goal

abbrev pub invariant-loop-k : goal.invariant-loop-k
invariant-loop-k l = Searching (λ j. not (present (value_in mandatory_width l.rows j))) l.n l.k
