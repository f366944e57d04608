-- `put_notes` puts a note a turn: those put so far are the first ones.
-- One turn is one note more.
use Prim.Native.Nat.{ℕ, ◌-◌}
use native.Mathlib.Omega.{arith}
use mathlib.Core.Path.{◌≡◌, ap, ◌∙◌}
use Rattle.answers.specs.Says.{put}
use Rattle.part_answers.specs.Mandated.{first_notes}
use Rattle.part_answers.proofs.Notes.{note-put, none-put}
use Rattle.part_answers.proofs.put_notes.Goals as goal

pub loop-i-init : goal.loop-i-init
loop-i-init c = let a = c.args in (omega arith, none-put a.from.notes a.notes.now)

pub loop-i-preserved : goal.loop-i-preserved
loop-i-preserved c = let a = c.args in (c.loop-i.invariant.0, rw c.loop-i.invariant.1 (note-put c.loop-i.i a.from.notes a.notes.now))

pub returns : goal.returns
returns c =
    let e : c.loop-i.i ≡ c.used_notes-used.result = omega arith in
    let a = c.args in
    (c.used_notes-used.ensures, c.loop-i.invariant.1 ∙ ap (λ (k : ℕ). put (first_notes k a.from.notes) a.notes.now) (e ∙ c.used_notes-used.ensures))
