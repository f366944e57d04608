-- `count_len` is the length of a count in shortest form.
-- Each branch settles the definition's tests.
use native.Mathlib.Omega.{arith}
use Prim.Native.Nat.{◌/◌}
use borrow.Author.Tests.{lt-ltb, le-ltb}
use Rattle.definitions.specs.Logs.{leb128, leb_f}
use Rattle.kept.proofs.count_len.Goals as goal

pub returns-then-n-lt128 : goal.returns-then-n-lt128
unfolding leb128 leb_f
returns-then-n-lt128 c = rw (lt-ltb c.args.n 128 (omega arith))

pub returns-then-n-lt16384 : goal.returns-then-n-lt16384
unfolding leb128 leb_f
returns-then-n-lt16384 c = let n = c.args.n in rw (le-ltb n 128 (omega arith), lt-ltb (n / 128) 128 (omega arith))

pub returns : goal.returns
unfolding leb128 leb_f
returns c = let n = c.args.n in rw (le-ltb n 128 (omega arith), le-ltb (n / 128) 128 (omega arith))
