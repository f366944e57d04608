-- `put_count` stores a count's octets at the front: each size has its law.
-- The room asked for is the count's own length.
use Prim.Native.Nat.{◌≤◌, ◌<◌}
use native.Mathlib.Omega.{arith}
use mathlib.Core.Path.{refl}
use lib.ListN.{length, length-set}
use Rattle.definitions.proofs.Logs.{leb-one, leb-two, leb-three, leb-some}
use Rattle.definitions.proofs.Lists.{front-one, front-two, front-three}
use Rattle.kept.proofs.put_count.Goals as goal
use Rattle.kept.proofs.put_count.Goals.{Else-n-lt128}

-- there is room for the first octet whatever the size
small : (c : Else-n-lt128) → 0 < length c.args.out.now
small c = omega (arith, leb-some c.args.n)

pub bounds-out-0 : goal.bounds-out-0
bounds-out-0 c = let n = c.args.n in let h : 1 ≤ length c.args.out.now = rw (leb-one n (omega arith)) at c.requires.1 in omega arith

pub returns-then-n-lt128 : goal.returns-then-n-lt128
returns-then-n-lt128 c = let n = c.args.n in let h : 1 ≤ length c.args.out.now = rw (leb-one n (omega arith)) at c.requires.1 in rw (leb-one n (omega arith)) (refl, front-one _ _ h)

pub bounds-out-0-2 : goal.bounds-out-0-2
bounds-out-0-2 c = small (goal.at.bounds-out-0-2 c).Else-n-lt128

pub bounds-out-1 : goal.bounds-out-1
bounds-out-1 c = let n = c.args.n in let h : 2 ≤ length c.args.out.now = rw (leb-two n (omega arith) (omega arith)) at c.requires.1 in simp length-set (omega arith)

pub returns-then-n-lt16384 : goal.returns-then-n-lt16384
returns-then-n-lt16384 c = let n = c.args.n in let h : 2 ≤ length c.args.out.now = rw (leb-two n (omega arith) (omega arith)) at c.requires.1 in rw (leb-two n (omega arith) (omega arith)) (refl, front-two _ _ _ h)

pub bounds-out-1-2 : goal.bounds-out-1-2
bounds-out-1-2 c = let n = c.args.n in let h : 3 ≤ length c.args.out.now = rw (leb-three n (omega arith)) at c.requires.1 in simp length-set (omega arith)

pub bounds-out-2 : goal.bounds-out-2
bounds-out-2 c = let n = c.args.n in let h : 3 ≤ length c.args.out.now = rw (leb-three n (omega arith)) at c.requires.1 in simp length-set (omega arith)

pub returns : goal.returns
returns c = let n = c.args.n in let h : 3 ≤ length c.args.out.now = rw (leb-three n (omega arith)) at c.requires.1 in rw (leb-three n (omega arith)) (refl, front-three _ _ _ _ h)
