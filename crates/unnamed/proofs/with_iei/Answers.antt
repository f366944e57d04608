-- `with_iei` adds the place that the index has.
-- Each arm names what the index says.
use Prim.Native.Nat.{◌^◌}
use native.Mathlib.Nat.{div-add-mod'}
use mathlib.Core.Path.{ap, sym, ◌∙◌}
use Rattle.rows.specs.Answers.{place_as}
use Rattle.seen.specs.Seen.{set_of}
use Rattle.unnamed.proofs.Naming.{with-place}
use Rattle.unnamed.proofs.with_iei.Goals as goal

pub returns-in-Some : goal.returns-in-Some
returns-in-Some c = ap set_of c.with.ensures ∙ div-add-mod' _ (2 ^ 64) ∙ sym (with-place _ _ _ (sym c.place_of.ensures ∙ ap place_as c.in-Some.is))

pub returns-in-None : goal.returns-in-None
returns-in-None c = sym (with-place _ _ _ (sym c.place_of.ensures ∙ ap place_as c.in-None.is))
