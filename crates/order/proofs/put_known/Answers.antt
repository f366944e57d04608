-- `put_known` stores two octets if there is room for both.
-- The test is the definition's.
use native.Mathlib.Omega.{arith}
use borrow.Author.Tests.{le-leb, lt-leb}
use lib.ListN.{length}
use Rattle.kept.specs.Kept.{if_room}
use Rattle.definitions.proofs.Lists.{front-two}
use Rattle.order.proofs.put_known.Goals as goal

pub returns-then-out-lt2 : goal.returns-then-out-lt2
unfolding if_room
returns-then-out-lt2 c = rw (lt-leb 2 (length c.args.out.now) (omega arith))

pub returns : goal.returns
unfolding if_room
returns c = let h = c.args.out.now in rw (le-leb 2 (length h) (omega arith)) (front-two _ _ h (omega arith))
