-- `Cursor::take` equals the run at the cursor.
-- Each way out settles the run's test by the branches that led there.
use Prim.Native.Nat.{◌+◌, ◌≤◌, ◌<◌}
use native.Mathlib.Omega.{arith}
use lib.ListN.{length}
use Rattle.definitions.proofs.Octets.{run-there, run_short}
use Rattle.octets.proofs.Cursor.take.Goals as goal

pub returns-in_err-end : goal.returns-in_err-end
returns-in_err-end c = let a = c.args in let e = c.in_err-end.ensures in let h : length a.s.now < a.self.at + a.n = omega arith in rw run_short c.from_residual.ensures

pub returns-then-end-s : goal.returns-then-end-s
returns-then-end-s c = let a = c.args in let e = c.in_ok-end.ensures in let h : length a.s.now < a.self.at + a.n = omega arith in rw run_short

pub returns : goal.returns
returns c = let a = c.args in let e = c.in_ok-end.ensures in let h : a.self.at + a.n ≤ length a.s.now = omega arith in rw (run-there, e.1)
