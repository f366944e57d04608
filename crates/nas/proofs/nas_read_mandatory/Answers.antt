-- `nas_read_mandatory` returns the answer of a reading of mandatory rows, with what that leaves in the lent rows and notes.
-- One call and one conversion: the answer of the call is that of the definition.
use Rattle.part_answers.proofs.Notes.{mandatory-by}
use Rattle.nas.proofs.nas_read_mandatory.Goals as goal

pub returns : goal.returns
returns c = mandatory-by c.decode_mandatory_ies.ensures c.mandated_said.ensures
