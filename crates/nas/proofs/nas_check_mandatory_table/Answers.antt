-- `nas_check_mandatory_table` returns the answer of the check.
-- One call and one conversion: the answer of the call is that of the definition.
use mathlib.Core.Path.{ap}
use Rattle.answers.specs.Says.{check_answer}
use Rattle.answers.proofs.Laws.{said-by}
use Rattle.nas.proofs.nas_check_mandatory_table.Goals as goal

pub returns : goal.returns
returns c = said-by (ap check_answer c.check_mandatory_table.ensures) c.checked_said.ensures
