-- `put_lv_e` stores the two octets of the length and lends the rest for the value.
-- The pieces together are the front written.
use Prim.Native.Nat.{ℕ, ◌+◌, ◌/◌, ◌%◌, ◌≤◌}
use native.Mathlib.Omega.{arith}
use mathlib.Core.Path.{◌∙◌}
use mathlib.Core.List.{List}
use lib.ListN.{length, set, length-set}
use Rattle.mandatory_writing.proofs.Encoding.{put-lent, over-two}
use Rattle.mandatory_writing.proofs.row.put_lv_e.Goals as goal

pub bounds-out-1 : goal.bounds-out-1
bounds-out-1 c = simp length-set (omega arith)

pub slice_bounds-put_slice-count : goal.slice_bounds-put_slice-count
slice_bounds-put_slice-count c = simp length-set (omega arith)

pub slice_bounds-put_slice-start : goal.slice_bounds-put_slice-start
slice_bounds-put_slice-start c = simp length-set (omega arith)

pub returns : goal.returns
returns c =
    let a = c.args in
    let n : ℕ = length a.value.now in
    let d : List ℕ = set (set a.out.now 0 (n / 256)) 1 (n % 256) in
    let h : 2 + n ≤ length d = simp length-set (omega (arith, c.requires.1)) in
    rw c.put_slice.ensures (put-lent 2 a.value.now d h ∙ over-two (n / 256) (n % 256) a.value.now a.out.now (omega (arith, c.requires.1)))
