-- `mandated_said` puts the notes, then the number and the values with how many notes there are.
-- Two calls, each by its contract.
use Prim.Native.Nat.{ℕ}
use mathlib.Core.Path.{ap}
use Rattle.part_answers.specs.Mandated.{brief_as}
use Rattle.answers.proofs.Laws.{said-by}
use Rattle.part_answers.proofs.mandated_said.Goals as goal

pub returns : goal.returns
returns c =
    let a = c.args in
    let p = c.put_notes-count.ensures in
    record { says = said-by (ap (λ (k : ℕ). brief_as a.read.answer k) p.0) c.brief_said.ensures; notes-are = p.1 }
