-- `nas_kept_clear` returns that no octet of a kept log is used.
-- One call and one conversion: the answer of the call is that of the definition.
use Rattle.answers.proofs.Laws.{said-by}
use Rattle.nas.proofs.nas_kept_clear.Goals as goal

pub returns : goal.returns
returns c = said-by c.kept_clear.ensures c.pushed_said.ensures
