-- `with_note` stores a note behind those that are used.
-- This is the definition.
use Rattle.mandatory.specs.Notes.{with_note}
use Rattle.std.proofs.Common.{rules}
use Rattle.mandatory.proofs.notes.with_note.Goals as goal

pub returns : goal.returns
unfolding with_note
returns c = search rules
