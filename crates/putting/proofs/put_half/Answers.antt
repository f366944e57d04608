-- `put_half` stores one octet where the value is one half octet, the sum with its IEI is an octet and there is room.
-- Each refusal by the test that led to it; at the end all hold, and the sum is an octet.
use native.Mathlib.Omega.{arith}
use Prim.Native.Nat.{◌+◌, ◌%◌}
use mathlib.Core.Path.{refl, sym, ◌∙◌}
use borrow.Author.Tests.{eq-eqb, ne_eqb, le-leb, lt-leb}
use lib.ListN.{length, get_or}
use Rattle.definitions.specs.Rows.{half}
use Rattle.definitions.specs.Values.{fits}
use Rattle.definitions.specs.Writing.{encoded}
use Rattle.definitions.proofs.Lists.{front-one}
use Rattle.putting.specs.Puts.{addable}
use Rattle.putting.proofs.Putting.{put-not, put-done, not-fit, not-addable, no_room, all_there}
use Rattle.putting.proofs.put_half.Goals as goal
use Rattle.putting.proofs.put_half.Goals.{then-not-is_half-via-then-not-is_half, then-not-is_half-via-else-not-is_half+then-iei-gt240}

pub returns-in_default : goal.returns-in_default
unfolding fits
returns-in_default c = let a = c.args in put-not (not-fit half a.source a.iei a.value.now a.out.now (rw (ne_eqb (length a.value.now) 1 (omega arith))))

pub returns-in_default-2 : goal.returns-in_default-2
unfolding fits
returns-in_default-2 c = let a = c.args in put-not (not-fit half a.source a.iei a.value.now a.out.now (rw (ne_eqb (length a.value.now) 1 (omega arith))))

pub returns-then-not-is_half : goal.returns-then-not-is_half
unfolding fits addable
returns-then-not-is_half c =
    let a = c.args in
    elim c.then-not-is_half.branch [
      | then-not-is_half-via-then-not-is_half w ↦ put-not (not-fit half a.source a.iei a.value.now a.out.now (rw (eq-eqb (length a.value.now) 1 (omega arith), sym c.is_half.ensures ∙ w.if-not-is_half.true)))
      | then-not-is_half-via-else-not-is_half+then-iei-gt240 w ↦ put-not (not-addable half a.source a.iei a.value.now a.out.now (lt-leb a.iei 240 (omega arith)))
    ]

pub returns-in_err-first : goal.returns-in_err-first
unfolding encoded
returns-in_err-first c = let a = c.args in rw c.from_residual.ensures (put-not (no_room half a.source a.iei a.value.now a.out.now (omega (arith, c.in_err-first.ensures.item.3))))

pub returns : goal.returns
unfolding fits addable encoded
returns c = let a = c.args in put-done (all_there half a.source a.iei a.value.now a.out.now (rw (eq-eqb (length a.value.now) 1 (omega arith), sym c.is_half.ensures ∙ c.if-not-is_half.false)) (le-leb a.iei 240 (omega arith)) (omega (arith, c.in_ok-first.ensures.item.3.0))) refl (front-one (a.iei + get_or a.value.now 0 0 % 16) a.out.now (omega (arith, c.in_ok-first.ensures.item.3.0)))
