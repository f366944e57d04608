-- `put_lv` stores the length and lends the rest for the value.
-- The two pieces together are the front written.
use Prim.Native.Nat.{◌≤◌}
use native.Mathlib.Omega.{arith}
use mathlib.Core.Path.{◌∙◌}
use mathlib.Core.List.{List}
use Prim.Native.Nat.{ℕ, ◌+◌}
use lib.ListN.{length, set, length-set}
use Rattle.definitions.proofs.Lists.{over-cons}
use Rattle.mandatory_writing.proofs.Encoding.{put-lent}
use Rattle.mandatory_writing.proofs.row.put_lv.Goals as goal

pub slice_bounds-put_slice-count : goal.slice_bounds-put_slice-count
slice_bounds-put_slice-count c = simp length-set (omega arith)

pub slice_bounds-put_slice-start : goal.slice_bounds-put_slice-start
slice_bounds-put_slice-start c = simp length-set (omega arith)

pub returns : goal.returns
returns c =
    let a = c.args in
    let d : List ℕ = set a.out.now 0 (length a.value.now) in
    let h : 1 + length a.value.now ≤ length d = simp length-set (omega (arith, c.requires.1)) in
    rw c.put_slice.ensures (put-lent 1 a.value.now d h ∙ over-cons (length a.value.now) a.value.now a.out.now (omega (arith, c.requires.1)))
