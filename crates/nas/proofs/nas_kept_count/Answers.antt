-- `nas_kept_count` returns how many elements a kept log holds.
-- One call and one conversion: the answer of the call is that of the definition.
use Rattle.answers.proofs.Laws.{said-by}
use Rattle.nas.proofs.nas_kept_count.Goals as goal

pub returns : goal.returns
returns c = said-by c.kept_count.ensures c.counted_said.ensures
