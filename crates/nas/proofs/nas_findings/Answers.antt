-- `nas_findings` returns the answer of the findings, with what that leaves in lent memory.
-- One call and one conversion: the answer of the call is that of the definition.
use Rattle.answers.proofs.Laws.{said-by}
use Rattle.nas.proofs.nas_findings.Goals as goal

pub returns : goal.returns
returns c =
    let d = c.optional_ie_order_findings.ensures in
    record { says = said-by d.answers c.found_said.ensures; findings-are = d.findings-are }
