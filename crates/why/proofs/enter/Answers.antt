-- `enter` sets the entry of a place that is one of 128 and was not met.
-- By the place and both tests.
use native.Mathlib.Omega.{arith}
use mathlib.Core.Path.{refl, sym, ◌∙◌}
use borrow.Author.Tests.{lt-ltb, le-ltb}
use Rattle.why.specs.Whys.{entered}
use Rattle.why.proofs.enter.Goals as goal
use Rattle.why.proofs.enter.Goals.{else-place-lt128-via-then-place-lt128+else-not-has, else-place-lt128-via-else-place-lt128}

pub returns-in_default : goal.returns-in_default
unfolding entered
returns-in_default c = rw c.in_default.is refl

pub returns-then-not-has : goal.returns-then-not-has
unfolding entered
returns-then-not-has c = rw (c.in-Some.is, lt-ltb c.in-Some.place 128 (omega arith), sym c.has.ensures ∙ c.if-not-has.true) refl

pub returns-else-place-lt128 : goal.returns-else-place-lt128
unfolding entered
returns-else-place-lt128 c =
    elim
    c.else-place-lt128.branch [
      | else-place-lt128-via-then-place-lt128+else-not-has w ↦ rw (c.in-Some.is, lt-ltb c.in-Some.place 128 (omega (arith, w.if-place-lt128.true)), sym w.has.ensures ∙ w.if-not-has.false) refl
      | else-place-lt128-via-else-place-lt128 w ↦ rw (c.in-Some.is, le-ltb c.in-Some.place 128 (omega (arith, w.if-place-lt128.false))) refl
    ]
