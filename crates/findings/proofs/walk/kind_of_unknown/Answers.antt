-- `kind_of_unknown` asks the index for the IEI of a first octet.
-- Each arm names what the index says.
use Prim.Native.Nat.{ℕ}
use mathlib.Core.Path.{ap, sym, ◌∙◌}
use mathlib.Core.Option.{Option}
use Rattle.definitions.specs.Basic.{pick, is_none}
use Rattle.definitions.specs.Rows.{place_in}
use Rattle.rows.specs.Answers.{place_as}
use Rattle.findings.proofs.walk.kind_of_unknown.Goals as goal

pub returns-in-Some : goal.returns-in-Some
unfolding is_none
returns-in-Some c = ap (λ (o : Option ℕ). pick (is_none o) 0 2) (ap place_as (sym c.in-Some.is) ∙ c.place_of.ensures ∙ ap (place_in c.args.index.now) c.iei_of-masked.ensures)

pub returns-in-None : goal.returns-in-None
unfolding is_none
returns-in-None c = ap (λ (o : Option ℕ). pick (is_none o) 0 2) (ap place_as (sym c.in-None.is) ∙ c.place_of.ensures ∙ ap (place_in c.args.index.now) c.iei_of-masked.ensures)
