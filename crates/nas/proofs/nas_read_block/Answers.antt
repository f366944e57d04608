-- `nas_read_block` returns the answer of a reading into a block, with what that leaves in lent memory.
-- One call and one conversion: the answer of the call is that of the definition.
use Rattle.answers.proofs.Laws.{said-by}
use Rattle.nas.proofs.nas_read_block.Goals as goal

pub returns : goal.returns
returns c =
    let d = c.decode_into_block.ensures in
    record { says = said-by d.answers c.decoded_said.ensures; rows_are = d.rows_are; block-is = d.block-is }
