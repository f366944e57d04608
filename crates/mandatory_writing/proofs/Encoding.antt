-- One row, written: its length, and pieces lent behind a length field.
-- Each is a regrouping of the front and what is behind it, or the definition's own clause.
use Prim.Native.Nat.{ℕ, ◌+◌, ◌-◌, ◌≤◌}
use native.Mathlib.Omega.{arith}
use mathlib.Core.Path.{◌≡◌, refl}
use mathlib.Core.List.{List, [], ◌∷◌}
use lib.ListN.{length, take, drop, set, length-take, length-drop}
use lib.Seq.{take_all}
use borrow.Rule.Slice.PartMut.{put_mid}
use Rattle.definitions.specs.Basic.{over, over_at}
use Rattle.definitions.specs.Mandatory.{MandatoryForm, low_half, high_half, fixed_v, lv, lv-e, encoded_row}
use Rattle.definitions.proofs.Lists.{lent-over}
use Rattle.mandatory_writing.specs.Writes.{encoded_size}

-- octets that fit into a part that was lent, to the end
pub put-lent :
    (n : ℕ) (s d : List ℕ) → n + length s ≤ length d
    → put_mid n (length d - n) d (over (take (length (take (length d - n) (drop n d))) s) (take (length d - n) (drop n d))) ≡ over_at n s d
put-lent n s d h =
    let e : take (length (take (length d - n) (drop n d))) s ≡ s = take_all (length (take (length d - n) (drop n d))) s (simp (length-take, length-drop) (omega arith)) in
    rw e (lent-over n s d (omega arith))

-- two numbers stored at the front, and the rest lent behind them
pub over-two : (x y : ℕ) (s d : List ℕ) → 2 ≤ length d → over_at 2 s (set (set d 0 x) 1 y) ≡ over (x ∷ y ∷ s) d
unfolding over over_at
over-two x y s [] h = absurd (omega arith)
over-two x y s (p ∷ []) h = absurd (omega arith)
over-two x y s (p ∷ q ∷ d) h = refl

pub encoded-size : (f : MandatoryForm) (low source : ℕ) (s : List ℕ) → length (encoded_row f low source s) ≡ encoded_size f (length s)
unfolding encoded_row encoded_size
encoded-size low_half low source s = refl
encoded-size high_half low source s = refl
encoded-size (fixed_v n) low source s = refl
encoded-size lv low source s = omega arith
encoded-size lv-e low source s = omega arith

pub size-most : (f : MandatoryForm) (n : ℕ) → encoded_size f n ≤ 2 + n
unfolding encoded_size
size-most low_half n = omega arith
size-most high_half n = omega arith
size-most (fixed_v m) n = omega arith
size-most lv n = omega arith
size-most lv-e n = omega arith
