-- `put_element` stores the IEI and lends the rest for the octets after it.
-- The two pieces together are the front written.
use Prim.Native.Nat.{ℕ, ◌-◌, ◌≤◌}
use native.Mathlib.Omega.{arith}
use mathlib.Core.Path.{◌∙◌}
use mathlib.Core.List.{List}
use lib.ListN.{length, take, drop, set, length-set, length-take, length-drop}
use lib.Seq.{take_all}
use Rattle.definitions.proofs.Lists.{lent-over, over-cons}
use Rattle.kept.proofs.put_element.Goals as goal

pub slice_bounds-put_slice-count : goal.slice_bounds-put_slice-count
slice_bounds-put_slice-count c = simp length-set (omega arith)

pub slice_bounds-put_slice-start : goal.slice_bounds-put_slice-start
slice_bounds-put_slice-start c = simp length-set (omega arith)

pub returns : goal.returns
returns c =
    let a = c.args in
    let d : List ℕ = set a.out.now 0 a.iei in
    let h : 1 ≤ length d = simp length-set (omega arith) in
    let p : List ℕ = take (length d - 1) (drop 1 d) in
    let l : length a.octets.now ≤ length p = simp (length-take, length-drop, length-set) (omega arith) in
    rw (c.put_slice.ensures, take_all (length p) a.octets.now l) (lent-over 1 a.octets.now d h ∙ over-cons a.iei a.octets.now a.out.now (omega arith))
