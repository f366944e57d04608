-- `nas_why` returns why an element came as it did.
-- One call and one conversion: the answer of the call is that of the definition.
use Rattle.answers.proofs.Laws.{said-by}
use Rattle.nas.proofs.nas_why.Goals as goal

pub returns : goal.returns
returns c = said-by c.why_set_aside.ensures c.why_said.ensures
