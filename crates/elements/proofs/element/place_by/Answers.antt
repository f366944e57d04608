-- `place_by` is the entry that an index has for an IEI, if it is below 128.
-- By the test.
use Prim.Native.Nat.{ℕ}
use mathlib.Core.Path.{◌≡◌, refl, ap, ◌∙◌}
use mathlib.Core.Bool.{Bool, true, false}
use lib.ListN.{get_or}
use lib.Dec.{ltb}
use Rattle.std.specs.Prelude.{Some, None}
use Rattle.std.specs.Bool.{then_some}
use Rattle.definitions.specs.Basic.{pick}
use Rattle.elements.specs.Steps.{place_at}
use Rattle.elements.proofs.element.place_by.Goals as goal

pub returns : goal.returns
unfolding place_at
returns c =
    let e : c.from-entry.result ≡ get_or c.args.index.now c.args.iei 0 = c.from-entry.ensures ∙ ap (λ (n : ℕ). get_or c.args.index.now n 0) c.from.ensures in
    c.then_some.ensures ∙ by (ltb c.from-entry.result 128) c.from-entry.result ∙ ap place_at e
  where
    by : (b : Bool) (e : ℕ) → then_some b e ≡ pick b (Some e) None
    by true e = refl
    by false e = refl
