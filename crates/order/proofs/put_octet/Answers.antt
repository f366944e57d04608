-- `put_octet` stores an octet if there is one to store it in.
-- The test is the definition's.
use native.Mathlib.Omega.{arith}
use borrow.Author.Tests.{le-leb, lt-leb}
use lib.ListN.{length}
use Rattle.kept.specs.Kept.{if_room}
use Rattle.definitions.proofs.Lists.{front-one}
use Rattle.order.proofs.put_octet.Goals as goal

pub returns-in_default : goal.returns-in_default
unfolding if_room
returns-in_default c = rw (lt-leb 1 (length c.args.out.now) (omega arith))

pub returns-in-len1-up : goal.returns-in-len1-up
unfolding if_room
returns-in-len1-up c = let h = c.args.out.now in let l = c.in-len1-up.len_at_least in rw (le-leb 1 (length h) (omega arith)) (front-one _ h (omega arith))
