-- `with` adds the bit in the half that the place is in; the other half is as it was.
-- Each half is read off the sum of both.
use native.Mathlib.Omega.{arith}
use Rattle.seen.proofs.Sets.{with-low, with-high, with-past}
use Rattle.seen.proofs.Seen.with.Goals as goal

pub returns-then-place-lt64 : goal.returns-then-place-lt64
returns-then-place-lt64 c = rw c.with_bit.ensures (with-low c.args.self (omega arith) c.args.place (omega arith))

pub returns-then-place-lt128 : goal.returns-then-place-lt128
returns-then-place-lt128 c = rw c.with_bit-then-place-lt128.ensures (with-high c.args.self (omega arith) c.args.place (omega arith) (omega arith))

pub returns : goal.returns
returns c = with-past c.args.self (omega arith) c.args.place (omega arith)
