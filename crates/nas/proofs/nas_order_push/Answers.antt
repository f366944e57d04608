-- `nas_order_push` returns the answer of a push.
-- One call and one conversion: the answer of the call is that of the definition.
use Rattle.answers.proofs.Laws.{said-by}
use Rattle.nas.proofs.nas_order_push.Goals as goal

pub returns : goal.returns
returns c = (said-by c.push_by.ensures.said c.pushed_said.ensures, c.push_by.ensures.log_after)
