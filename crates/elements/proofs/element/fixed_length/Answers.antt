-- `fixed_length` is one octet and n behind it, if they are there.
-- By the test.
use Prim.Native.Nat.{ℕ, ◌+◌}
use native.Mathlib.Omega.{arith}
use mathlib.Core.Path.{◌≡◌, refl}
use mathlib.Core.Bool.{Bool, true, false}
use mathlib.Core.Option.{some}
use borrow.Author.Tests.{le-leb, lt-leb, ltb-true, ltb-false}
use lib.ListN.{length}
use lib.Dec.{ltb}
use Rattle.std.proofs.Common.{rules}
use Rattle.std.specs.Prelude.{Option, Some, None, is_some, IfSome}
use Rattle.definitions.specs.Length.{within}
use Rattle.length.specs.Answers.{length_of}
use Rattle.elements.proofs.element.fixed_length.Goals as goal

pub returns : goal.returns
unfolding within
returns c =
    let h : IfSome c.then.result (λ (x : ℕ). x ≡ 1 + c.args.n) = search rules in
    by (ltb c.args.n (length c.args.octets.now)) refl c.then.result c.then.ensures.variant h
  where
    by : (b : Bool) → ltb c.args.n (length c.args.octets.now) ≡ b → (r : Option ℕ) → is_some r ≡ b → IfSome r (λ (x : ℕ). x ≡ 1 + c.args.n) → r ≡ length_of (within c.args.octets.now (some (1 + c.args.n)))
    by true e (Some x) v h = rw (h, le-leb (1 + c.args.n) (length c.args.octets.now) (omega (arith, ltb-true c.args.n (length c.args.octets.now) e)))
    by true e None v h = cc
    by false e (Some x) v h = cc
    by false e None v h = rw (lt-leb (1 + c.args.n) (length c.args.octets.now) (omega (arith, ltb-false c.args.n (length c.args.octets.now) e)))
