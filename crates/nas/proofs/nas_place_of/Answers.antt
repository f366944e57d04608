-- `nas_place_of` returns what an index says of an IEI.
-- One call and one conversion: the answer of the call is that of the definition.
use mathlib.Core.Path.{ap}
use Rattle.answers.specs.Says.{place_answer}
use Rattle.answers.proofs.Laws.{said-by}
use Rattle.nas.proofs.nas_place_of.Goals as goal

pub returns : goal.returns
returns c = said-by (ap place_answer c.place_of.ensures) c.place_said.ensures
