-- `judge_known` compares the place with the highest so far, and the higher is the highest behind it.
-- Each way out is a case of the definition's test.
use native.Mathlib.Omega.{arith}
use mathlib.Core.Path.{refl}
use borrow.Author.Tests.{lt-ltb, le-ltb}
use Rattle.definitions.proofs.LogSteps.{kept_after}
use Rattle.findings.specs.Findings.{kind_of, high_after}
use Rattle.findings.proofs.walk.judge_known.Goals as goal

pub returns-then-place-w : goal.returns-then-place-w
unfolding kind_of high_after kept_after
returns-then-place-w c =
    let w = c.args.w in
    record { kind = rw (← c.place_or_0-place.ensures, lt-ltb c.place_or_0-place.result w.highest (omega arith)); highest = omega arith; rest = refl; formed = c.requires }

pub returns : goal.returns
unfolding kind_of high_after kept_after
returns c =
    let w = c.args.w in
    record { kind = rw (← c.place_or_0-place.ensures, le-ltb c.place_or_0-place.result w.highest (omega arith)); highest = omega arith; rest = refl; formed = c.requires }
