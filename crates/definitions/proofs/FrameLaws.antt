-- A complete element, taken apart and put together again: encoding the value under the IEI gives the element's octets.
-- What a length field states is shown once over its width; then each form computes.
use Prim.Native.Nat.{ℕ, zero, suc, ◌+◌, ◌-◌, ◌*◌, ◌/◌, ◌%◌, ◌≤◌, ◌<◌}
use native.Mathlib.Omega.{arith}
use mathlib.Core.Path.{◌≡◌, refl, sym, ap, ◌∙◌}
use mathlib.Core.List.{List, [], ◌∷◌, ◌++◌}
use mathlib.Core.Option.{Option, none, some, map}
use mathlib.Core.Bool.{Bool, true, false}
use lib.ListN.{length, get_or, take, drop, length-append}
use lib.Seq.{take-nil, length-take-le, take-append-le, take-take}
use lib.Dec.{leb}
use borrow.Author.Tests.{leb-true, leb-false, le-leb, eq-eqb}
use Rattle.definitions.specs.Basic.{pick}
use Rattle.definitions.specs.Octets.{run, number, number_at}
use Rattle.definitions.specs.Rows.{Form, half, fixed, tlv, tlv-e, iei_of}
use Rattle.definitions.specs.Length.{header, length_by, stated, within, whole}
use Rattle.definitions.specs.Values.{fits}
use Rattle.definitions.specs.Writing.{encoded}
use Rattle.definitions.proofs.Steps.{Frames, whole-frames}
use Rattle.definitions.proofs.RowLaws.{Bears}

-- ---- the IEI of a first octet

pub iei-high : (x : ℕ) → 128 ≤ iei_of x → (128 ≤ x) × (iei_of x ≡ x / 16 * 16)
unfolding iei_of
iei-high x = go (leb 128 x) refl
  where
    go : (b : Bool) → leb 128 x ≡ b → 128 ≤ pick b (x / 16 * 16) x → (128 ≤ x) × (pick b (x / 16 * 16) x ≡ x / 16 * 16)
    go true e h = (leb-true 128 x e, refl)
    go false e h = absurd (omega (arith, leb-false 128 x e))

pub iei-low : (x : ℕ) → iei_of x ≤ 127 → (x ≤ 127) × (iei_of x ≡ x)
unfolding iei_of
iei-low x = go (leb 128 x) refl
  where
    go : (b : Bool) → leb 128 x ≡ b → pick b (x / 16 * 16) x ≤ 127 → (x ≤ 127) × (pick b (x / 16 * 16) x ≡ x)
    go true e h = absurd (omega (arith, leb-true 128 x e))
    go false e h = (h, refl)

-- ---- what a length field states

pub field : (w : ℕ) (s : List ℕ) (n : ℕ) → length_by w s ≡ some n → (1 + w ≤ length s) × (n ≡ 1 + w + number (take w (drop 1 s)))
unfolding length_by number_at run
field w s n = go (leb (1 + w) (length s)) refl
  where
    go : (b : Bool) → leb (1 + w) (length s) ≡ b → map (λ n. 1 + w + n) (map number (pick b (some (take w (drop 1 s))) none)) ≡ some n
        → (1 + w ≤ length s) × (n ≡ 1 + w + number (take w (drop 1 s)))
    go true e q = (leb-true (1 + w) (length s) e, cc)
    go false e q = let z : ◌≡◌ {A = ℕ} 0 1 = cc in absurd (omega arith)

pub drop-take : (h n : ℕ) (s : List ℕ) → drop h (take n s) ≡ take (n - h) (drop h s)
drop-take zero n s = let e : n - 0 ≡ n = omega arith in rw e
drop-take (suc h) zero s = let e : 0 - suc h ≡ 0 = omega arith in rw e
drop-take (suc h) (suc n) [] = rw (take-nil (suc n - suc h))
drop-take (suc h) (suc n) (x ∷ s) = let e : suc n - suc h ≡ n - h = omega arith in rw (e, drop-take h n s)

within_same : (o : Option ℕ) (s s' : List ℕ) → length s' ≡ length s → within s' o ≡ within s o
unfolding within
within_same none s s' l = refl
within_same (some n) s s' l = rw l

-- the whole length is the same of octets that are as many, and the same as far as the header goes
pub field-same : (w : ℕ) (s s' : List ℕ) → leb (1 + w) (length s') ≡ leb (1 + w) (length s) → take (1 + w) s' ≡ take (1 + w) s → length_by w s' ≡ length_by w s
unfolding length_by number_at run
field-same w s s' l e =
    let c : 1 + w - 1 ≡ w = omega arith in
    let d : take w (drop 1 s') ≡ take w (drop 1 s) = rw c at (sym (drop-take 1 (1 + w) s') ∙ ap (drop 1) e ∙ drop-take 1 (1 + w) s) in
    rw (l, d)

pub whole_same : (f : Form) (s s' : List ℕ) → length s' ≡ length s → take (header f) s' ≡ take (header f) s → whole f s' ≡ whole f s
unfolding whole within stated header
whole_same half s s' l e = rw l
whole_same (fixed n) s s' l e = rw l
whole_same tlv s s' l e = rw (field-same 1 s s' (rw l) e) (within_same (length_by 1 s) s s' l)
whole_same tlv-e s s' l e = rw (field-same 2 s s' (rw l) e) (within_same (length_by 2 s) s s' l)

-- an element that is whole is so in front of other octets
pub whole-front : (f : Form) (s z : List ℕ) (n : ℕ) → whole f s ≡ some n → whole f (take n s ++ z) ≡ some n
unfolding whole within stated header
whole-front f s z n e = go f (frames-of e)
  where
    frames-of : whole f s ≡ some n → Frames f s (some n)
    frames-of e = rw e at (whole-frames f s)

    long : n ≤ length s → n ≤ length (take n s ++ z)
    long h = simp length-append (omega (arith, length-take-le n s h))

    heads : (h : ℕ) → n ≤ length s → h ≤ n → take h (take n s ++ z) ≡ take h s
    heads h l k = take-append-le h (take n s) z (omega (arith, length-take-le n s l)) ∙ take-take h n s k

    by : (w : ℕ) → n ≤ length s → 1 + w ≤ n → length_by w s ≡ some n → length_by w (take n s ++ z) ≡ some n
    by w l k q = field-same w s (take n s ++ z) (rw (le-leb (1 + w) (length s) (omega arith), le-leb (1 + w) (length (take n s ++ z)) (omega (arith, long l)))) (heads (1 + w) l k) ∙ q

    states : (f : Form) → Frames f s (some n) → stated f (take n s ++ z) ≡ some n
    states half g = g.0
    states (fixed m) g = g.0
    states tlv g = by 1 g.1 g.3 g.0
    states tlv-e g = by 2 g.1 g.3 g.0

    go : (f : Form) → Frames f s (some n) → within (take n s ++ z) (stated f (take n s ++ z)) ≡ some n
    go f g = rw (states f g, le-leb n (length (take n s ++ z)) (long g.1))

-- ---- there and back

-- what is left to show of an element of n octets: its value fits, and put together again it is the element
abbrev pub Restores : Form → ℕ → List ℕ → Type 0
Restores f iei e = (fits f 1 (drop (header f) e) ≡ true) × (encoded f iei (drop (header f) e) ≡ e)

pub restore : (f : Form) (x : ℕ) (xs : List ℕ) (n : ℕ) → n ≤ length (x ∷ xs) → ((i : ℕ) → get_or (x ∷ xs) i 0 < 256) → Bears f (iei_of x) → stated f (x ∷ xs) ≡ some n → Restores f (iei_of x) (take n (x ∷ xs))
unfolding stated header fits encoded number
restore half x xs n l small b e =
    let i = iei-high x b.0 in
    let c : 1 ≡ n = cc in
    rw (← c) (refl, ap (λ (y : ℕ). y ∷ []) (omega arith))
restore (fixed m) x xs n l small b e =
    let c : 1 + m ≡ n = cc in
    let d : n ≡ suc m = omega arith in
    rw d (eq-eqb _ m (length-take-le m xs (omega arith)), ap (λ (y : ℕ). y ∷ take m xs) (iei-low x b).1)
restore tlv x [] n l small b e = absurd (omega (arith, (field 1 (x ∷ []) n e).0))
restore tlv x (a ∷ ys) n l small b e =
    let d : n ≡ suc (suc a) = omega (arith, (field 1 (x ∷ a ∷ ys) n e).1) in
    let k : length (take a ys) ≡ a = length-take-le a ys (omega arith) in
    rw (d, k, (iei-low x b).1) (le-leb a 255 (omega (arith, small 1)), refl)
restore tlv-e x [] n l small b e = absurd (omega (arith, (field 2 (x ∷ []) n e).0))
restore tlv-e x (a ∷ []) n l small b e = absurd (omega (arith, (field 2 (x ∷ a ∷ []) n e).0))
restore tlv-e x (a ∷ c ∷ ys) n l small b e =
    let d : n ≡ suc (suc (suc (a * 256 + c))) = omega (arith, (field 2 (x ∷ a ∷ c ∷ ys) n e).1) in
    let k : length (take (a * 256 + c) ys) ≡ a * 256 + c = length-take-le (a * 256 + c) ys (omega arith) in
    let high : (a * 256 + c) / 256 ≡ a = omega (arith, small 2) in
    let low : (a * 256 + c) % 256 ≡ c = omega (arith, small 2) in
    rw (d, k, (iei-low x b).1, high, low) (le-leb (a * 256 + c) 65535 (omega (arith, small 1, small 2)), refl)
