-- `copy_rows` writes as many numbers as both sides have into the front.
-- What is behind them is as it was.
use Prim.Native.Nat.{min}
use native.Mathlib.Omega.{arith}
use mathlib.Core.Path.{◌≡◌}
use lib.ListN.{length, take}
use lib.Seq.{length-take-le}
use Rattle.definitions.proofs.Lists.{over-take}
use Rattle.plain_reading.proofs.copy_rows.Goals as goal

pub returns : goal.returns
returns c =
    let a = c.args in
    let m = min a.n (min (length a.rows.now) (length a.found.now)) in
    let e : c.min-m.result ≡ m = omega (arith, c.min-m.ensures, c.min.ensures) in
    rw (over-take (take m a.found.now) a.rows.now m (length-take-le m a.found.now (omega arith)), c.copy_from_slice.ensures.after, e)
