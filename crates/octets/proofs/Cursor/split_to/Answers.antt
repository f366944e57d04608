-- `Cursor::split_to` equals the octets of the run at the cursor.
-- What `take` gave settles the run's test; a short run has no octet, and another stands at the cursor.
use Prim.Native.Nat.{◌+◌, ◌-◌}
use mathlib.Core.Path.{◌≡◌, sym, ◌∙◌}
use native.Mathlib.Omega.{arith}
use Rattle.definitions.proofs.Octets.{run-there}
use Rattle.octets.proofs.Laws.{run-is, run-none}
use Rattle.octets.proofs.Cursor.split_to.Goals as goal

pub returns-in_default-clause-stands_at : goal.returns-in_default-clause-stands_at
returns-in_default-clause-stands_at c = let a = c.args in let h = run-none a.n a.self.at a.s.now (sym c.in_default.is ∙ c.take.ensures) in λ i. absurd (omega arith)

pub slice_bounds-result-end-2 : goal.slice_bounds-result-end-2
slice_bounds-result-end-2 c = let a = c.args in let t = run-is a.n a.self.at a.s.now c.in-Some.run' (sym c.in-Some.is ∙ c.take.ensures) in rw (t.1) t.0

pub returns : goal.returns
returns c =
    let a = c.args in
    let t = run-is a.n a.self.at a.s.now c.in-Some.run' (sym c.in-Some.is ∙ c.take.ensures) in
    let e : a.self.at + a.n - a.self.at ≡ a.n = omega arith in let h = t.0 in record { result_value = rw (t.1, run-there, e); stands_at = λ i. rw (t.1) }
