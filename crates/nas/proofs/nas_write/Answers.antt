-- `nas_write` returns the answer of a writing, with what that leaves in the output.
-- One call and one conversion: the answer of the call is that of the definition.
use Rattle.answers.proofs.Laws.{said-by}
use Rattle.nas.proofs.nas_write.Goals as goal

pub returns : goal.returns
returns c =
    let d = c.encode_optional_ies.ensures in
    record { says = said-by d.answers c.encoded_said.ensures; output-is = d.output-is }
