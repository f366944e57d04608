-- `with_element` counts an element by how it came.
-- Each arm names it.
use mathlib.Core.Path.{◌≡◌, ap, sym, ◌∙◌}
use mathlib.Core.Logic.{◌⊎◌, inl, inr}
use Rattle.order.specs.declared.Placed.{Placed}
use Rattle.order.specs.declared.IgnoredIeReason.{IgnoredIeReason}
use Rattle.elements.specs.Walked.{tallied}
use Rattle.elements.proofs.Stepping.{known-tallied, ignored-tallied}
use Rattle.elements.proofs.walk.with_element.Goals as goal

pub returns-in-Known : goal.returns-in-Known
returns-in-Known c = let a = c.args in known-tallied a.t a.len _ ∙ ap (tallied a.t a.len) (sym c.in-Known.is)

pub returns-in-Unknown : goal.returns-in-Unknown
returns-in-Unknown c = c.aside.ensures ∙ by c.in-Unknown.is
  where
    by : (c.args.placed ≡ Placed.Unknown) ⊎ ((x : IgnoredIeReason) × (c.args.placed ≡ Placed.Ignored x)) → tallied c.args.t c.args.len Placed.Unknown ≡ tallied c.args.t c.args.len c.args.placed
    by (inl e) = ap (tallied c.args.t c.args.len) (sym e)
    by (inr e) = ignored-tallied c.args.t c.args.len e.0 ∙ ap (tallied c.args.t c.args.len) (sym e.1)
