-- `with_bit` adds the bit where it is not there, and that fits.
-- `has_bit` settles the definition's test.
use Prim.Native.Nat.{ℕ, ◌+◌, ◌*◌, ◌%◌, ◌^◌, ◌<◌}
use native.Mathlib.Omega.{arith}
use mathlib.Core.Path.{◌≡◌, ap, sym, ◌∙◌}
use lib.Pow.{shl_exact}
use Rattle.definitions.specs.Elements.{including}
use Rattle.seen.proofs.Sets.{including-fits}
use Rattle.seen.proofs.with_bit.Goals as goal

pub returns-then-has_bit : goal.returns-then-has_bit
unfolding including
returns-then-has_bit c = rw (sym c.has_bit.ensures ∙ c.if-has_bit.true)

pub overflow_add-result : goal.overflow_add-result
unfolding including
overflow_add-result c = let k = c.args.k in let set = c.args.set in let e : 1 * 2 ^ k ≡ 2 ^ k = omega arith in let s : 1 * 2 ^ k % 2 ^ 64 ≡ 1 * 2 ^ k = shl_exact 1 k 64 (omega arith) (omega arith) in let i : set + 2 ^ k < 2 ^ 64 = rw (sym c.has_bit.ensures ∙ c.if-has_bit.false) at (including-fits 64 k set c.requires (omega arith)) in omega arith

pub returns : goal.returns
unfolding including
returns c = let k = c.args.k in let set = c.args.set in let s : 1 * 2 ^ k % 2 ^ 64 ≡ 2 ^ k = shl_exact 1 k 64 (omega arith) (omega arith) ∙ (omega arith) in rw (sym c.has_bit.ensures ∙ c.if-has_bit.false) (ap (λ (n : ℕ). set + n) s)
