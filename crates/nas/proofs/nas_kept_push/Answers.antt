-- `nas_kept_push` returns the answer of a push.
-- One call and one conversion: the answer of the call is that of the definition.
use Rattle.answers.proofs.Laws.{said-by}
use Rattle.nas.proofs.nas_kept_push.Goals as goal

pub returns : goal.returns
returns c = (said-by c.kept_push.ensures.said c.pushed_said.ensures, c.kept_push.ensures.log_after)
