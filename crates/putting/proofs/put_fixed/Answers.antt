-- `put_fixed` puts the value behind its IEI.
-- A value of another length does not fit; any other fits, and the rest is a question of room.
use native.Mathlib.Omega.{arith}
use mathlib.Core.Path.{refl}
use borrow.Author.Tests.{eq-eqb, ne_eqb}
use lib.ListN.{length}
use Rattle.definitions.specs.Rows.{fixed}
use Rattle.definitions.specs.Values.{fits}
use Rattle.definitions.specs.Writing.{encoded}
use Rattle.putting.specs.Puts.{addable}
use Rattle.putting.proofs.Putting.{put-not, not-fit, put-fitting}
use Rattle.putting.proofs.put_fixed.Goals as goal

pub returns-then-value-n : goal.returns-then-value-n
unfolding fits
returns-then-value-n c = let a = c.args in put-not (not-fit (fixed a.n) 0 a.iei a.value.now a.out.now (ne_eqb (length a.value.now) a.n c.if-value-n.true))

pub returns : goal.returns
unfolding fits addable encoded
returns c = let a = c.args in put-fitting (fixed a.n) 0 a.iei a.value.now a.out.now (eq-eqb (length a.value.now) a.n (omega arith)) refl c.put_headed.ensures
