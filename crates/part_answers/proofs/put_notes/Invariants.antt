-- `put_notes` puts a note a turn: those put so far are the first ones.
-- There are at most 32, so each has room.
use Prim.Native.Nat.{◌≤◌}
use mathlib.Core.Path.{◌≡◌}
use Rattle.answers.specs.Says.{put}
use Rattle.part_answers.specs.Mandated.{first_notes}
use Rattle.part_answers.proofs.put_notes.Given as goal

abbrev pub invariant-loop-i : goal.invariant-loop-i
invariant-loop-i l = (l.used ≤ 32) × (l.notes ≡ put (first_notes l.i l.from.notes) l.initial.notes)
