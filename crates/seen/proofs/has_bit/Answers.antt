-- `has_bit` is the bit, by a shift and a remainder.
-- By the definition of a bit.
use mathlib.Core.Path.{refl}
use Rattle.definitions.specs.Basic.{bit}
use Rattle.seen.proofs.has_bit.Goals as goal

pub returns : goal.returns
unfolding bit
returns c = refl
