-- A set as a number: what is in a set with one more in it.
-- By where the bit that is asked for stands: at the one that is added, below it or above it.
use Prim.Native.Nat.{ℕ, suc, ◌+◌, ◌-◌, ◌/◌, ◌%◌, ◌^◌}
use native.Mathlib.Omega.{arith}
use native.Mathlib.Nat.{add-div_right, add-mul-div_left, zero-div}
use mathlib.Core.Path.{◌≡◌, refl, sym, ap, ◌∙◌}
use mathlib.Core.Bool.{Bool, true, false, ◌||◌}
use lib.Pow.{pow_pos, pow-add, shr-shr}
use lib.Dec.{eqb, ltb}
use borrow.Author.Tests.{eqb-true, eqb-false, eq-eqb, ltb-true, ltb-false}
use Rattle.definitions.specs.Basic.{pick, bit}
use Rattle.definitions.specs.Elements.{including}

module _ (k set : ℕ) (out : bit k set ≡ false) where
  even : set / 2 ^ k % 2 ≡ 0
  unfolding bit
  even = let z : set / 2 ^ k % 2 ≡ 1 → ⊥ = eqb-false _ _ out in omega arith

  bit_at : bit k (set + 2 ^ k) ≡ true
  unfolding bit
  bit_at = rw (add-div_right set (pow_pos k)) (eq-eqb ((set / 2 ^ k + 1) % 2) 1 (omega (arith, even)))

  bit_below : (j i : ℕ) → k ≡ j + suc i → bit j (set + 2 ^ k) ≡ bit j set
  unfolding bit
  bit_below j i e =
      let c : (set / 2 ^ j + 2 ^ suc i) % 2 ≡ set / 2 ^ j % 2 = omega arith in
      ap (λ (n : ℕ). eqb (n % 2) 1) (ap (λ (n : ℕ). (set + n) / 2 ^ j) (ap (λ (n : ℕ). 2 ^ n) e ∙ pow-add 2 j (suc i)) ∙ add-mul-div_left set (2 ^ suc i) (pow_pos j))
      ∙ ap (λ (n : ℕ). eqb n 1) c

  bit-above : (j i : ℕ) → j ≡ k + 1 + i → bit j (set + 2 ^ k) ≡ bit j set
  unfolding bit
  bit-above j i e =
      let c : (set / 2 ^ k + 1) / 2 ≡ set / 2 ^ k / 2 = omega (arith, even) in
      let d : (set + 2 ^ k) / 2 ^ (k + 1) ≡ set / 2 ^ (k + 1) = sym (shr-shr (set + 2 ^ k) k 1) ∙ ap (λ (n : ℕ). n / 2) (add-div_right set (pow_pos k)) ∙ c ∙ shr-shr set k 1 in
      rw (e, ← (shr-shr (set + 2 ^ k) (k + 1) i), ← (shr-shr set (k + 1) i), d)

  bit_added : (j : ℕ) → bit j (set + 2 ^ k) ≡ (eqb j k || bit j set)
  bit_added j = go (eqb j k) (ltb j k) refl refl
    where
      go : (b c : Bool) → eqb j k ≡ b → ltb j k ≡ c → bit j (set + 2 ^ k) ≡ (b || bit j set)
      go true c e d = rw (eqb-true j k e) bit_at
      go false true e d = bit_below j (k - suc j) (omega (arith, ltb-true j k d))
      go false false e d = bit-above j (j - suc k) (let n : j ≡ k → ⊥ = eqb-false j k e in omega (arith, ltb-false j k d))

-- a number is in a set with k in it where it is k or was in the set
pub bit-including : (j k set : ℕ) → bit j (including k set) ≡ (eqb j k || bit j set)
unfolding including
bit-including j k set = go (bit k set) refl
  where
    stays : (b : Bool) → eqb j k ≡ b → bit k set ≡ true → bit j set ≡ (b || bit j set)
    stays true e h = rw (eqb-true j k e) h
    stays false e h = refl

    go : (b : Bool) → bit k set ≡ b → bit j (pick b set (set + 2 ^ k)) ≡ (eqb j k || bit j set)
    go true h = stays (eqb j k) refl h
    go false h = bit_added k set h j

-- none is in the empty set
pub no-bit : (j : ℕ) → bit j 0 ≡ false
unfolding bit
no-bit j = rw (zero-div (2 ^ j))
