-- A set of 128 bits as two numbers of 64: what is in it, and what it is with one more in it.
-- By the laws of division by powers of two, in the low half and in the high half.
use Prim.Native.Nat.{ℕ, suc, ◌+◌, ◌*◌, ◌-◌, ◌/◌, ◌%◌, ◌^◌, ◌≤◌, ◌<◌}
use native.Mathlib.Omega.{arith}
use native.Mathlib.Nat.{add-mul, pow-suc, mod-lt, lt_of_lt_of_le}
use mathlib.Core.Path.{◌≡◌, refl, ap, ap₂, sym, ◌∙◌}
use mathlib.Core.Bool.{Bool, true, false}
use borrow.Author.Tests.{eqb-true, eqb-false, eq-eqb, ne_eqb, lt-ltb, le-ltb}
use Rattle.seen.specs.Seen.{set_of, seen_of, including_place}
use Rattle.seen.specs.declared.Seen.{Seen}
use lib.Dec.{eqb}
use lib.Arith.{digits_lt}
use lib.Pow.{pow_pos, pow-add, shr-shr, shr_lt, split, high, low, field, mod-mod-pow, pow_mono}
use Rattle.definitions.specs.Basic.{pick, bit}
use Rattle.definitions.specs.Elements.{including}

-- a bit that is added fits
pub including-fits : (n k set : ℕ) → k < n → set < 2 ^ n → including k set < 2 ^ n
unfolding including bit
including-fits n k set h l = by (eqb (set / 2 ^ k % 2) 1) refl
  where
    d : ℕ
    d = n - suc k

    top : 2 ^ n ≡ 2 ^ (suc d + k)
    top = let e : n ≡ suc d + k = omega arith in ap (λ (i : ℕ). 2 ^ i) e

    by : (b : Bool) → eqb (set / 2 ^ k % 2) 1 ≡ b → pick b set (set + 2 ^ k) < 2 ^ n
    by true e = l
    by false e =
        let z : set / 2 ^ k % 2 ≡ 1 → ⊥ = eqb-false (set / 2 ^ k % 2) 1 e in
        let q : set / 2 ^ k < 2 ^ suc d = shr_lt (suc d) k (rw top at l) in
        let q' : set / 2 ^ k < 2 ^ d * 2 = rw (pow-suc 2 d) at q in
        let r : set / 2 ^ k + 1 < 2 ^ d * 2 = omega arith in
        let r' : set / 2 ^ k + 1 < 2 ^ suc d = rw (pow-suc 2 d) r in
        let t : (set / 2 ^ k + 1) * 2 ^ k + set % 2 ^ k < 2 ^ suc d * 2 ^ k = digits_lt r' (mod-lt set (pow_pos k)) in
        let s : set / 2 ^ k * 2 ^ k + set % 2 ^ k ≡ set = split set k in
        let a : (set / 2 ^ k + 1) * 2 ^ k ≡ set / 2 ^ k * 2 ^ k + 1 * 2 ^ k = add-mul (set / 2 ^ k) 1 (2 ^ k) in
        let u : set + 2 ^ k < 2 ^ suc d * 2 ^ k = omega arith in
        rw (top, pow-add 2 (suc d) k) u

-- a number has no bit past its size
outside : (j n : ℕ) → n < 2 ^ j → bit j n ≡ false
unfolding bit
outside j n h =
    let z : 2 ^ (0 + j) ≡ 2 ^ j = let e : 0 + j ≡ j = omega arith in ap (λ (i : ℕ). 2 ^ i) e in
    let q : n / 2 ^ j < 1 = shr_lt 0 j (rw z h) in
    ne_eqb (n / 2 ^ j % 2) 1 (λ e. omega arith)

module _ (hi lo : ℕ) (l : lo < 2 ^ 64) where
  abbrev both : ℕ
  both = hi * 2 ^ 64 + lo

  -- in the low half
  module _ (k : ℕ) (h : k < 64) where
    d : ℕ
    d = 63 - k

    pub bit-low : bit k both ≡ bit k lo
    unfolding bit d
    bit-low =
        let e : 64 ≡ d + 1 + k = omega arith in
        let m : both % 2 ^ (d + 1 + k) ≡ lo = ap (λ (i : ℕ). both % 2 ^ i) (sym e) ∙ low hi 64 l in
        let f : lo / 2 ^ k ≡ both / 2 ^ k % 2 ^ (d + 1) = ap (λ (x : ℕ). x / 2 ^ k) (sym m) ∙ field both (d + 1) k in
        let g : both / 2 ^ k % 2 ^ (d + 1) % 2 ≡ both / 2 ^ k % 2 = mod-mod-pow (both / 2 ^ k) d 1 in
        ap (λ (x : ℕ). eqb x 1) (sym (ap (λ (x : ℕ). x % 2) f ∙ g))

    pub including-low : including k both ≡ hi * 2 ^ 64 + including k lo
    unfolding including
    including-low = rw bit-low (by (bit k lo))
      where
        by : (b : Bool) → pick b both (both + 2 ^ k) ≡ hi * 2 ^ 64 + pick b lo (lo + 2 ^ k)
        by true = refl
        by false = omega arith

  -- in the high half
  module _ (k : ℕ) (h : 64 ≤ k) where
    at-64 : k ≡ 64 + (k - 64)
    at-64 = omega arith

    pub bit_high : bit k both ≡ bit (k - 64) hi
    unfolding bit
    bit_high =
        let e : both / 2 ^ k ≡ hi / 2 ^ (k - 64) =
        ap (λ (i : ℕ). both / 2 ^ i) at-64 ∙ sym (shr-shr both 64 (k - 64)) ∙ ap (λ (x : ℕ). x / 2 ^ (k - 64)) (high hi 64 l) in
        ap (λ (x : ℕ). eqb (x % 2) 1) e

    pub including-high : including k both ≡ including (k - 64) hi * 2 ^ 64 + lo
    unfolding including
    including-high = rw bit_high (by (bit (k - 64) hi))
      where
        p : 2 ^ k ≡ 2 ^ 64 * 2 ^ (k - 64)
        p = ap (λ (i : ℕ). 2 ^ i) at-64 ∙ pow-add 2 64 (k - 64)

        by : (b : Bool) → pick b both (both + 2 ^ k) ≡ pick b hi (hi + 2 ^ (k - 64)) * 2 ^ 64 + lo
        by true = refl
        by false = omega (arith, p)

    -- and past both
    pub bit_past : 128 ≤ k → hi < 2 ^ 64 → bit k both ≡ false
    bit_past g m = bit_high ∙ outside (k - 64) hi (lt_of_lt_of_le m (pow_mono {i = 64} {j = k - 64} (omega arith)))

-- the two halves of a sum of both
pub seen_of_lem : (hi lo : ℕ) → lo < 2 ^ 64 → ◌≡◌ {A = Seen} (record { low = lo; high = hi }) (seen_of (hi * 2 ^ 64 + lo))
seen_of_lem hi lo l = ap₂ (λ (a b : ℕ). record { low = a; high = b }) (sym (low hi 64 l)) (sym (high hi 64 l))

-- with a place in it, in the low half, in the high half, past both
module _ (s : Seen) (l : s.low < 2 ^ 64) (k : ℕ) where
  pub with-low : k < 64 → ◌≡◌ {A = Seen} (record { low = including k s.low; high = s.high }) (seen_of (including_place k (set_of s)))
  unfolding including_place
  with-low h = rw (lt-ltb k 128 (omega arith), including-low s.high s.low l k h) (seen_of_lem s.high (including k s.low) (including-fits 64 k s.low h l))

  pub with-high : 64 ≤ k → k < 128 → ◌≡◌ {A = Seen} (record { low = s.low; high = including (k - 64) s.high }) (seen_of (including_place k (set_of s)))
  unfolding including_place
  with-high h g = rw (lt-ltb k 128 g, including-high s.high s.low l k h) (seen_of_lem (including (k - 64) s.high) s.low l)

  pub with-past : 128 ≤ k → s ≡ seen_of (including_place k (set_of s))
  unfolding including_place
  with-past h = rw (le-ltb k 128 h) (seen_of_lem s.high s.low l)

-- ---- no bit

-- without low bits the high ones decide
pub none-high : (high low : ℕ) → low ≡ 0 → eqb high 0 ≡ eqb (high * 2 ^ 64 + low) 0
none-high high low e = by (eqb high 0) refl
  where
    by : (b : Bool) → eqb high 0 ≡ b → b ≡ eqb (high * 2 ^ 64 + low) 0
    by true q = let z = eqb-true high 0 q in sym (eq-eqb (high * 2 ^ 64 + low) 0 (omega arith))
    by false q = let z = eqb-false high 0 q in sym (ne_eqb (high * 2 ^ 64 + low) 0 (λ y. z (omega arith)))

pub not_none : (high low : ℕ) → (low ≡ 0 → ⊥) → false ≡ eqb (high * 2 ^ 64 + low) 0
not_none high low h = sym (ne_eqb (high * 2 ^ 64 + low) 0 (λ y. h (omega arith)))
