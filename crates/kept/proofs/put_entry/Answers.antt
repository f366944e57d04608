-- `put_entry` writes the count and lends the rest for the element.
-- The two pieces together are the entry.
use Prim.Native.Nat.{ℕ, suc, ◌+◌, ◌≤◌}
use native.Mathlib.Omega.{arith}
use native.Mathlib.Numerals.{add-one}
use mathlib.Core.Path.{◌≡◌, ap, ◌∙◌}
use mathlib.Core.List.{◌∷◌, ◌++◌}
use lib.ListN.{length, length-take, length-drop}
use Rattle.definitions.specs.Basic.{over}
use Rattle.definitions.specs.Logs.{leb128, kept_entry}
use Rattle.definitions.proofs.Logs.{entry_length}
use Rattle.definitions.proofs.Lists.{put-behind}
use Rattle.kept.proofs.put_entry.Goals as goal

pub put_count-c-requires : goal.put_count-c-requires
put_count-c-requires c =
    let room : length (leb128 (length c.args.octets.now + 1)) + suc (length c.args.octets.now) ≤ length c.args.out.now = rw (add-one (length c.args.octets.now)) (rw entry_length at c.requires.1) in
    (omega arith, omega (arith, room))

pub slice_bounds-put_element-count : goal.slice_bounds-put_element-count
slice_bounds-put_element-count c =
    let counted : (c.put_count-c.result ≡ length (leb128 (length c.args.octets.now + 1))) × (length c.put_count-c.new.out ≡ length c.args.out.now) = (c.put_count-c.ensures.0, c.put_count-c.auto.out) in
    let room : length (leb128 (length c.args.octets.now + 1)) + suc (length c.args.octets.now) ≤ length c.args.out.now = rw (add-one (length c.args.octets.now)) (rw entry_length at c.requires.1) in
    omega (arith, counted, room)

pub slice_bounds-put_element-start : goal.slice_bounds-put_element-start
slice_bounds-put_element-start c =
    let counted : (c.put_count-c.result ≡ length (leb128 (length c.args.octets.now + 1))) × (length c.put_count-c.new.out ≡ length c.args.out.now) = (c.put_count-c.ensures.0, c.put_count-c.auto.out) in
    let room : length (leb128 (length c.args.octets.now + 1)) + suc (length c.args.octets.now) ≤ length c.args.out.now = rw (add-one (length c.args.octets.now)) (rw entry_length at c.requires.1) in
    omega (arith, counted, room)

pub put_element-requires : goal.put_element-requires
put_element-requires c =
    let counted : (c.put_count-c.result ≡ length (leb128 (length c.args.octets.now + 1))) × (length c.put_count-c.new.out ≡ length c.args.out.now) = (c.put_count-c.ensures.0, c.put_count-c.auto.out) in
    let room : length (leb128 (length c.args.octets.now + 1)) + suc (length c.args.octets.now) ≤ length c.args.out.now = rw (add-one (length c.args.octets.now)) (rw entry_length at c.requires.1) in
    simp (length-take, length-drop) (omega (arith, counted, room))

pub returns : goal.returns
unfolding kept_entry
returns c =
    let room : length (leb128 (length c.args.octets.now + 1)) + suc (length c.args.octets.now) ≤ length c.args.out.now = rw (add-one (length c.args.octets.now)) (rw entry_length at c.requires.1) in
    let a = c.args in
    put-behind (leb128 (length a.octets.now + 1)) (a.iei ∷ a.octets.now) a.out.now c.put_count-c.ensures.0 c.put_count-c.ensures.1 (omega (arith, room)) c.put_element.ensures
    ∙ ap (λ (k : ℕ). over (leb128 k ++ (a.iei ∷ a.octets.now)) a.out.now) (add-one (length a.octets.now))
