-- `aside` adds the octets of a kept entry and one entry of the order log.
-- A count takes no more octets than it counts, so no sum wraps.
use native.Mathlib.Omega.{arith}
use Rattle.definitions.proofs.LogLaws.{leb-room}
use Rattle.definitions.specs.Logs.{order_entry}
use Rattle.elements.specs.Walked.{tallied}
use Rattle.elements.proofs.walk.aside.Goals as goal

pub overflow_add-result : goal.overflow_add-result
overflow_add-result c = omega (arith, c.count_len.ensures, leb-room c.args.len c.requires.0)

pub overflow_add-result-2 : goal.overflow_add-result-2
overflow_add-result-2 c = omega (arith, c.count_len.ensures, leb-room c.args.len c.requires.0)

pub returns : goal.returns
unfolding tallied order_entry
returns c = let a = c.args in rw c.count_len.ensures
