-- `nas_set` returns the answer of a setting, with what that leaves in lent memory.
-- One call and one conversion: the answer of the call is that of the definition.
use Rattle.answers.proofs.Laws.{said-by}
use Rattle.nas.proofs.nas_set.Goals as goal

pub returns : goal.returns
returns c =
    let d = c.set_place.ensures in
    record { says = said-by d.answers c.edited_said.ensures; rows_are = d.rows_are; set_is = d.set_is }
