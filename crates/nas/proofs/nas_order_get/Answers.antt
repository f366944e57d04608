-- `nas_order_get` returns an entry of an order log.
-- One call and one conversion: the answer of the call is that of the definition.
use Rattle.answers.proofs.Laws.{said-by}
use Rattle.nas.proofs.nas_order_get.Goals as goal

pub returns : goal.returns
returns c = said-by c.order_get.ensures c.entry_said.ensures
