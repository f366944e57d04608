-- `within` makes the definition's comparison.
use mathlib.Core.Bool.{Bool, true, false}
use mathlib.Core.Path.{◌≡◌, refl, ◌∙◌}
use mathlib.Core.Option.{none, some}
use Rattle.std.specs.Bool.{then_some}
use Rattle.definitions.specs.Basic.{pick}
use Rattle.definitions.specs.Length.{within}
use Rattle.length.specs.Answers.{length_of}
use Rattle.length.proofs.within.Goals as goal

pub returns : goal.returns
unfolding within
returns c = c.then_some.ensures ∙ by _
  where
    by : (b : Bool) → then_some b c.args.length ≡ length_of (pick b (some c.args.length) none)
    by true = refl
    by false = refl
