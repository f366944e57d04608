-- `nas_read_mandatory_by` returns the answer of a reading of mandatory rows by table number, with what that leaves in the lent rows and notes.
-- One call and one conversion: the answer of the call is that of the definition.
use Rattle.part_answers.proofs.Notes.{mandatory-by}
use Rattle.nas.proofs.nas_read_mandatory_by.Goals as goal

pub returns : goal.returns
returns c = mandatory-by c.decode_mandatory_ies_by.ensures c.mandated_said.ensures
