-- `nas_check_part_by` returns the answer of a check of a part.
-- One call and one conversion: the answer of the call is that of the definition.
use Rattle.answers.proofs.Laws.{said-by}
use Rattle.nas.proofs.nas_check_part_by.Goals as goal

pub returns : goal.returns
returns c = said-by c.check_part_by.ensures c.part_checked_said.ensures
