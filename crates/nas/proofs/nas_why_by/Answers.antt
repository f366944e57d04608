-- `nas_why_by` returns why an element came as it did, by table number.
-- One call and one conversion: the answer of the call is that of the definition.
use Rattle.answers.proofs.Laws.{said-by}
use Rattle.nas.proofs.nas_why_by.Goals as goal

pub returns : goal.returns
returns c = said-by c.why_set_aside_by.ensures c.why_said.ensures
