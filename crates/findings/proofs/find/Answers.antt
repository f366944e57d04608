-- `find` counts, judges the room, and writes.
-- The room is two numbers a finding.
use Prim.Native.Nat.{ℕ}
use native.Mathlib.Omega.{arith}
use mathlib.Core.Path.{refl, ap}
use mathlib.Core.List.{[], ◌∷◌}
use Rattle.definitions.specs.Basic.{answer}
use Rattle.findings.specs.Walks.{all_in}
use Rattle.findings.proofs.Finding.{finds-by, refused, noted-full, noted-done}
use Rattle.findings.proofs.Walked.{all-pairs}
use Rattle.findings.proofs.find.Goals as goal

pub returns-then-findings-n : goal.returns-then-findings-n
returns-then-findings-n c = let a = c.args in refused (noted-full (all_in a.index.now a.order.now a.kept.now) a.findings.now (omega (arith, c.count_findings-n.ensures.0))) refl

pub put_findings-requires : goal.put_findings-requires
put_findings-requires c = let a = c.args in (c.requires, omega (arith, c.count_findings-n.ensures.0, all-pairs a.index.now a.order.now a.kept.now))

pub returns : goal.returns
returns c =
    let a = c.args in
    finds-by (noted-done (all_in a.index.now a.order.now a.kept.now) a.findings.now (omega (arith, c.count_findings-n.ensures.0)))
    (record { answers = ap (λ (n : ℕ). answer 0 (n ∷ [])) c.count_findings-n.ensures.0; findings-are = c.put_findings.ensures })
