-- `nas_show` returns the value of a place.
-- One call and one conversion: the answer of the call is that of the definition.
use Rattle.answers.proofs.Laws.{said-by}
use Rattle.nas.proofs.nas_show.Goals as goal

pub returns : goal.returns
returns c = said-by c.show.ensures c.shown_said.ensures
