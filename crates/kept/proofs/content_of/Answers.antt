-- `content_of` refuses what the definition calls too long.
use native.Mathlib.Omega.{arith}
use mathlib.Core.Bool.{true, false≢true}
use mathlib.Core.Path.{◌≡◌, refl, sym, ◌∙◌}
use lib.ListN.{length-take}
use Rattle.definitions.specs.Basic.{too_long}
use Rattle.definitions.proofs.Logs.{not-long}
use Rattle.kept.specs.Kept.{used_of}
use Rattle.kept.proofs.Asked.{short-log}
use Rattle.kept.proofs.content_of.Goals as goal

pub returns-then-too_long-clause-short : goal.returns-then-too_long-clause-short
returns-then-too_long-clause-short c =
    let u = used_of c.args.log.now c.args.used in
    let t : too_long 131070 u ≡ true = sym c.too_long.ensures ∙ c.if-too_long.true in
    (λ e. absurd (false≢true e), λ h. let f = not-long 131070 u h.0 h.1 in cc)

pub slice_bounds-result-end : goal.slice_bounds-result-end
slice_bounds-result-end c = let s = short-log 131070 (used_of c.args.log.now c.args.used) (sym c.too_long.ensures ∙ c.if-too_long.false) in simp length-take (omega arith)

pub returns-clause-short : goal.returns-clause-short
returns-clause-short c = (λ e. short-log 131070 (used_of c.args.log.now c.args.used) (sym c.too_long.ensures ∙ c.if-too_long.false), λ h. refl)
