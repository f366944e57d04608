-- Text put piece by piece: a second piece behind a first is one text, whether or not there is room for either.
-- By cases on the room that is left.
use Prim.Native.Nat.{ℕ, zero, suc, ◌+◌, ◌-◌, ◌≤◌, ◌<◌}
use native.Mathlib.Omega.{arith}
use mathlib.Core.Path.{◌≡◌, refl, ap, ap₂, sym, ◌∙◌}
use mathlib.Core.List.{List, [], ◌++◌}
use mathlib.Core.Bool.{Bool, true, false}
use lib.ListN.{length, take, drop, length-take, length-drop, length-append}
use lib.Seq.{take_all, take-append-le, take-append-add}
use lib.Dec.{leb}
use borrow.Author.Tests.{leb-true, leb-false}
use borrow.Rule.Slice.PartMut.{put_mid}
use Rattle.definitions.specs.Basic.{over, over_at}
use Rattle.definitions.proofs.Lists.{over-next, over_none, length-over_at, lent-over}
use Rattle.wording.specs.Puts.{put_at, Put}

-- ---- what has no room

take_none : (n : ℕ) → take {A = ℕ} n [] ≡ []
take_none zero = refl
take_none (suc n) = refl

pub no_room : (k : ℕ) (s d : List ℕ) → length d ≤ k → put_at k s d ≡ d
unfolding put_at
no_room k s d h =
    let z : length d - k ≡ 0 = omega arith in
    ap (λ (n : ℕ). over_at k (take n s) d) z ∙ over_none k d

pub length-put : (k : ℕ) (s d : List ℕ) → length (put_at k s d) ≡ length d
unfolding put_at
length-put k s d = by (leb k (length d)) refl
  where
    by : (t : Bool) → leb k (length d) ≡ t → length (put_at k s d) ≡ length d
    by true h = length-over_at k (take (length d - k) s) d (omega (arith, leb-true k (length d) h, length-take (length d - k) s))
    by false h = ap length (no_room k s d (omega (arith, leb-false k (length d) h)))

-- ---- two pieces

put_next : (k : ℕ) (a b d : List ℕ) → put_at (k + length a) b (put_at k a d) ≡ put_at k (a ++ b) d
unfolding put_at
put_next k a b d = by (leb (k + length a) (length d)) refl
  where
    by : (t : Bool) → leb (k + length a) (length d) ≡ t → put_at (k + length a) b (put_at k a d) ≡ put_at k (a ++ b) d
    by true h =
        let l : k + length a ≤ length d = leb-true (k + length a) (length d) h in
        let e : take (length d - k) a ≡ a = take_all (length d - k) a (omega arith) in
        let p : put_at k a d ≡ over_at k a d = ap (λ (x : List ℕ). over_at k x d) e in
        let n : length (over_at k a d) ≡ length d = length-over_at k a d l in
        let m : length a + (length d - (k + length a)) ≡ length d - k = omega arith in
        let q : a ++ take (length d - (k + length a)) b ≡ take (length d - k) (a ++ b) =
        sym (take-append-add a b (length d - (k + length a))) ∙ ap (λ (x : ℕ). take x (a ++ b)) m in
        ap (put_at (k + length a) b) p
        ∙ ap (λ (x : ℕ). over_at (k + length a) (take (x - (k + length a)) b) (over_at k a d)) n
        ∙ over-next k a (take (length d - (k + length a)) b) d l
        ∙ ap (λ (x : List ℕ). over_at k x d) q
    by false h =
        let l : length d < k + length a = leb-false (k + length a) (length d) h in
        let n : length (put_at k a d) ≡ length d = length-put k a d in
        let q : take (length d - k) (a ++ b) ≡ take (length d - k) a = take-append-le (length d - k) a b (omega arith) in
        no_room (k + length a) b (put_at k a d) (omega arith) ∙ sym (ap (λ (x : List ℕ). over_at k x d) q)

pub put-none : (d : List ℕ) (k : ℕ) → Put d k [] d k
unfolding put_at
put-none d k = record { used = omega arith; out = sym (ap (λ (x : List ℕ). over_at k x d) (take_none (length d - k)) ∙ over_none k d) }

pub joined : {d : List ℕ} {k : ℕ} {a d₁ : List ℕ} {k₁ : ℕ} {b d₂ : List ℕ} {k₂ : ℕ} → Put d k a d₁ k₁ → Put d₁ k₁ b d₂ k₂ → Put d k (a ++ b) d₂ k₂
joined {d} {k} {a} {d₁} {k₁} {b} {d₂} {k₂} p q =
    record {
      used = omega (arith, p.used, q.used, length-append a b);
      out = q.out ∙ ap₂ (λ (n : ℕ) (x : List ℕ). put_at n b x) p.used p.out ∙ put_next k a b d;
    }

-- the same of an equal text
pub at-text : {d : List ℕ} {k : ℕ} {s s' d' : List ℕ} {k' : ℕ} → s ≡ s' → Put d k s d' k' → Put d k s' d' k'
at-text e p = rw (← e) p

-- the same of an equal buffer
pub at-buffer : {d d₀ : List ℕ} {k : ℕ} {s d' : List ℕ} {k' : ℕ} → d ≡ d₀ → Put d k s d' k' → Put d₀ k s d' k'
at-buffer e p = rw (← e) p

-- the same length
pub put-long : {d : List ℕ} {k : ℕ} {s d' : List ℕ} {k' : ℕ} → Put d k s d' k' → length d' ≡ length d
put-long {d} {k} {s} p = ap length p.out ∙ length-put k s d

-- ---- a text with room for all of it, and the part that is lent for a piece

pub put_whole : {d s d' : List ℕ} {k' : ℕ} → Put d 0 s d' k' → length s ≤ length d → d' ≡ over s d
unfolding put_at over_at
put_whole {d} {s} p h = p.out ∙ ap (λ (x : List ℕ). over_at 0 x d) (take_all (length d - 0) s (omega arith))

-- a text that stands in the front fits
pub front_fits : (s d : List ℕ) {n : ℕ} {d' : List ℕ} → n ≡ length s → d' ≡ over s d → n ≤ length d'
unfolding over
front_fits s d e f = omega (arith, e, ap length f, length-append s (drop (length s) d))

pub put-lent : (k : ℕ) (s d : List ℕ) {ys : List ℕ} → k ≤ length d
    → ys ≡ over (take (length (take (length d - k) (drop k d))) s) (take (length d - k) (drop k d)) → put_mid k (length d - k) d ys ≡ put_at k s d
unfolding put_at
put-lent k s d h e =
    let l : length (take (length d - k) (drop k d)) ≡ length d - k = simp (length-take, length-drop) (omega arith) in
    ap (put_mid k (length d - k) d) (e ∙ ap (λ (n : ℕ). over (take n s) (take (length d - k) (drop k d))) l)
    ∙ lent-over k (take (length d - k) s) d h
