-- `put_start` puts the two pieces one behind the other.
-- Both are under the limit.
use native.Mathlib.Omega.{arith}
use Rattle.wording.proofs.Puts.{joined}
use Rattle.wording.proofs.Said.{text-said, number-said}
use Rattle.grounds.proofs.put_start.Goals as goal

pub returns : goal.returns
returns c =
    let a = text-said (omega arith) (omega arith) c.say-next.ensures in
    joined a (number-said (omega arith) _ c.say_number.ensures)
