-- `high_bits` is the four bits of a high half.
-- By its source.
use native.Mathlib.Omega.{arith}
use borrow.Author.Tests.{eq-eqb, ne_eqb}
use Rattle.definitions.specs.Mandatory.{high_bits}
use Rattle.mandatory_writing.proofs.row.high_bits.Goals as goal

pub returns-then-source-eq1 : goal.returns-then-source-eq1
unfolding high_bits
returns-then-source-eq1 c = (rw (eq-eqb c.args.source 1 c.if-source-eq1.true, c.first.ensures), omega arith)

pub returns : goal.returns
unfolding high_bits
returns c = (rw (ne_eqb c.args.source 1 c.if-source-eq1.false, c.first-2.ensures), omega arith)
