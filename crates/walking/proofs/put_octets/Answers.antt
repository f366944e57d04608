-- `put_octets` stores one octet or two, and has any other number copied.
-- Octets in front are what a list of so many is put over.
use native.Mathlib.Omega.{arith}
use lib.ListN.{length-set}
use Rattle.putting.proofs.Putting.{whole}
use Rattle.walking.proofs.Runs.{one_of, two-of}
use Rattle.walking.proofs.put_octets.Goals as goal

pub returns-then-octets-eq1 : goal.returns-then-octets-eq1
returns-then-octets-eq1 c = one_of _ _ (omega arith) (omega arith)

pub bounds-out-1 : goal.bounds-out-1
bounds-out-1 c = simp length-set (omega arith)

pub returns-then-octets-eq2 : goal.returns-then-octets-eq2
returns-then-octets-eq2 c = two-of _ _ (omega arith) (omega arith)

pub returns : goal.returns
returns c = whole _ _ (omega arith) c.put_slice.ensures
