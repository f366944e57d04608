-- `low_bits` is the four bits of a low half.
-- This is the definition.
use native.Mathlib.Omega.{arith}
use Rattle.definitions.specs.Mandatory.{low_bits}
use Rattle.mandatory_writing.proofs.row.low_bits.Goals as goal

pub returns : goal.returns
unfolding low_bits
returns c = (rw c.first.ensures, omega arith)
