-- `kept_clear` answers that no octet is used, whatever it is handed.
-- By the definition.
use mathlib.Core.Path.{refl}
use Rattle.definitions.specs.Logs.{kept_clear}
use Rattle.kept.proofs.kept_clear.Goals as goal

pub returns : goal.returns
unfolding kept_clear
returns c = refl
