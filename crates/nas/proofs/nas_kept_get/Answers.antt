-- `nas_kept_get` returns where an element of a kept log stands.
-- One call and one conversion: the answer of the call is that of the definition.
use Rattle.answers.proofs.Laws.{said-by}
use Rattle.nas.proofs.nas_kept_get.Goals as goal

pub returns : goal.returns
returns c = said-by c.kept_get.ensures c.got_said.ensures
