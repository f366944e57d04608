-- `is_unlike` is whether a row is present, and under another IEI.
-- An absent one is not.
use native.Mathlib.Omega.{arith}
use borrow.Author.Tests.{le-leb}
use Rattle.definitions.specs.Values.{present, unlike}
use Rattle.agreement.proofs.is_unlike.Goals as goal

pub returns-then-row-eq0 : goal.returns-then-row-eq0
unfolding unlike present
returns-then-row-eq0 c = rw c.if-row-eq0.true

pub returns : goal.returns
unfolding unlike present
returns c = let a = c.args in let n = c.if-row-eq0.false in rw (le-leb 1 a.row.source (omega arith))
