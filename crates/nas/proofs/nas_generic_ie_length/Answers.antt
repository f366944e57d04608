-- `nas_generic_ie_length` returns the length of an unknown element.
-- One call and one conversion: the answer of the call is that of the definition.
use mathlib.Core.Path.{ap, ◌∙◌}
use Rattle.definitions.specs.Length.{unknown_length, missing}
use Rattle.answers.specs.Says.{length_as}
use Rattle.answers.proofs.Laws.{said-by, length-said}
use Rattle.nas.proofs.nas_generic_ie_length.Goals as goal

pub returns : goal.returns
returns c = let a = c.args in said-by (ap length_as c.generic_ie_length.ensures ∙ length-said (missing a.tlve_start a.octets.now) (unknown_length a.tlve_start a.octets.now)) c.length_said.ensures
