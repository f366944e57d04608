-- `good_iei` is the rule of an IEI in a row.
-- A number is a multiple of 16 where its remainder is 0.
use native.Mathlib.Omega.{arith}
use Rattle.std.proofs.lemmas.Bool.Decides.{nat_tests}
use Rattle.definitions.specs.Rows.{good_iei}
use Rattle.indexing.proofs.marks.good_iei.Goals as goal

pub returns-then-contains : goal.returns-then-contains
unfolding good_iei
returns-then-contains c = rw c.if-half.true (grind (arith, nat_tests))

pub returns-else-contains : goal.returns-else-contains
unfolding good_iei
returns-else-contains c = rw c.if-half.true (grind (arith, nat_tests))

pub returns-else-half : goal.returns-else-half
unfolding good_iei
returns-else-half c = rw c.if-half.false
