-- Each front that is lent is as long as was tested.
use Rattle.std.proofs.Common.{arith}
use Rattle.recorded.specs.Lent.{lent_octet, lent_number}
use Rattle.recorded.proofs.Laws.{lent-front}
use Rattle.replay.proofs.Case.part_is.Goals as goal

pub slice_bounds-read-end : goal.slice_bounds-read-end
slice_bounds-read-end c = lent-front 256 _ lent_number c.lent_numbers-rows.ensures (omega arith)

pub slice_bounds-read-end-2 : goal.slice_bounds-read-end-2
slice_bounds-read-end-2 c = lent-front 70000 _ lent_octet c.lent_octets-kept.ensures (omega arith)
