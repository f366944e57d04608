-- `clear_rows` fills as much of the front as there is.
-- What is behind it is as it was.
use Prim.Native.Nat.{ℕ, min}
use native.Mathlib.Omega.{arith}
use mathlib.Core.Path.{◌≡◌, ap, ◌∙◌}
use lib.ListN.{length, replicate, length-replicate}
use lib.Seq.{length-take-le}
use Rattle.definitions.proofs.Lists.{over-take}
use Rattle.plain_reading.proofs.clear_rows.Goals as goal

pub returns : goal.returns
returns c =
    let a = c.args in
    let m = min a.n (length a.rows.now) in
    let e : c.min-m.result ≡ m = omega (arith, c.min-m.ensures) in
    let f : c.fill.new.self ≡ replicate {A = ℕ} c.min-m.result 0 =
    c.fill.ensures.after (λ y h. h) ∙ ap (λ (k : ℕ). replicate {A = ℕ} k 0) (length-take-le c.min-m.result a.rows.now (omega (arith, e))) in
    rw (over-take (replicate m 0) a.rows.now m (length-replicate {A = ℕ} m 0), f, e)
