-- `nas_next` returns the answer at a state of four numbers.
-- One call and one conversion: the answer of the call is that of the definition.
use Rattle.nas.proofs.nas_next.Goals as goal

pub returns : goal.returns
returns c = rw (← c.next_element.ensures) c.next_said.ensures
