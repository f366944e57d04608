-- Laws of lists that the loops cite: a copy of one element more, and a buffer whose front is written piece by piece.
-- Each is a regrouping of take, drop and ++.
use Prim.Native.Nat.{ℕ, suc, ◌+◌, ◌-◌, ◌≤◌, ◌<◌}
use native.Mathlib.Omega.{arith}
use native.Mathlib.Numerals.{add-one, add-two, add-three}
use mathlib.Core.Path.{◌≡◌, refl, ap, ap₂, sym, ◌∙◌}
use mathlib.Core.List.{List, [], ◌∷◌, ◌++◌, append_assoc, append-nil}
use lib.ListN.{length, get_or, take, drop, set, replicate, length-replicate, get_or-replicate, take-append-drop, length-take, length-drop, length-append, drop_of_length-le}
use lib.Seq.{drop-cons, take-suc, set_at, drop-drop, take_all, length-take-le, take-append_seam, drop-append_seam, take-append-add, drop-append-add, sets-eq}
use borrow.Rule.Slice.PartMut.{put_mid, post_of}
use Rattle.definitions.specs.Basic.{over, over_at}

-- one element more of s copied over d
pub copy_step : (s d : List ℕ) (i : ℕ) → i < length s → i < length d → set (take i s ++ drop i d) i (get_or s i 0) ≡ take (i + 1) s ++ drop (i + 1) d
copy_step s d i h g =
    let l : length (take i s) ≡ i = length-take-le i s (omega arith) in
    rw (drop-cons d i 0 g, set_at (take i s) (get_or d i 0) (drop (suc i) d) (get_or s i 0) i l, add-one i, take-suc s i 0 h, append_assoc)

-- a front of known length
pub over-take : (s d : List ℕ) (i : ℕ) → length s ≡ i → over s d ≡ s ++ drop i d
unfolding over
over-take s d i e = rw e

-- a front in two pieces: the second goes into what is behind the first
pub over-append : (a b d : List ℕ) → over (a ++ b) d ≡ a ++ over b (drop (length a) d)
unfolding over
over-append a b d =
    let e : drop (length b) (drop (length a) d) ≡ drop (length a + length b) d = drop-drop (length b) (length a) d in
    rw (length-append, append_assoc, e)

-- a front that fits leaves the length as it was
pub length_over : (s d : List ℕ) → length s ≤ length d → length (over s d) ≡ length d
unfolding over
length_over s d h = simp (length-append, length-drop) (omega arith)

-- a part to the end is what is left
pub to_end : (n : ℕ) (s : List ℕ) → take (length s - n) (drop n s) ≡ drop n s
to_end n s = take_all (length s - n) (drop n s) (simp length-drop (omega arith))

-- one, two or three numbers stored at the front
module _ (a : ℕ) where
  pub front-one : (d : List ℕ) → 1 ≤ length d → set d 0 a ≡ over (a ∷ []) d
  unfolding over
  front-one [] h = absurd (omega arith)
  front-one (x ∷ d) h = refl

  pub front-two : (b : ℕ) (d : List ℕ) → 2 ≤ length d → set (set d 0 a) 1 b ≡ over (a ∷ b ∷ []) d
  unfolding over
  front-two b [] h = absurd (omega arith)
  front-two b (x ∷ []) h = absurd (omega arith)
  front-two b (x ∷ y ∷ d) h = refl

  pub front-three : (b c : ℕ) (d : List ℕ) → 3 ≤ length d → set (set (set d 0 a) 1 b) 2 c ≡ over (a ∷ b ∷ c ∷ []) d
  unfolding over
  front-three b c [] h = absurd (omega arith)
  front-three b c (x ∷ []) h = absurd (omega arith)
  front-three b c (x ∷ y ∷ []) h = absurd (omega arith)
  front-three b c (x ∷ y ∷ z ∷ d) h = refl

-- ---- a part that was lent, from a position to the end

-- what stands in the buffer afterwards
pub lent-end : (n : ℕ) (d ys : List ℕ) → n ≤ length d → put_mid n (length d - n) d ys ≡ take n d ++ ys
lent-end n d ys h =
    let e : post_of n (length d - n) d ≡ [] = drop_of_length-le (drop n d) {i = length d - n} (simp length-drop (omega arith)) in
    ap (λ (t : List ℕ). take n d ++ (ys ++ t)) e ∙ ap (λ (t : List ℕ). take n d ++ t) (append-nil ys)

-- with the part's own front written
pub lent-over : (n : ℕ) (s d : List ℕ) → n ≤ length d → put_mid n (length d - n) d (over s (take (length d - n) (drop n d))) ≡ over_at n s d
unfolding over_at
lent-over n s d h = lent-end n d (over s (take (length d - n) (drop n d))) h ∙ ap (λ (t : List ℕ). take n d ++ over s t) (to_end n d)

-- a second piece lent behind a first
pub over-lent : (a b d : List ℕ) → length a ≤ length d → over_at (length a) b (over a d) ≡ over (a ++ b) d
unfolding over over_at
over-lent a b d h =
    rw (take-append_seam a (drop (length a) d), drop-append_seam a (drop (length a) d)) (sym (over-append a b d))

-- a number stored at the front, and the rest lent behind it
pub over-cons : (x : ℕ) (s d : List ℕ) → 1 ≤ length d → over_at 1 s (set d 0 x) ≡ over (x ∷ s) d
unfolding over over_at
over-cons x s [] h = absurd (omega arith)
over-cons x s (y ∷ d) h = refl

-- a first piece written, and the part behind it lent for the second
pub put-behind : (a b d : List ℕ) {c : ℕ} {d' ys : List ℕ} → c ≡ length a → d' ≡ over a d → length a ≤ length d
    → ys ≡ over b (take (length d' - c) (drop c d')) → put_mid c (length d' - c) d' ys ≡ over (a ++ b) d
put-behind a b d {c = c} {d' = d'} i e h q =
    let l : c ≤ length d' = omega (arith, ap length e ∙ length_over a d h) in
    let p : put_mid c (length d' - c) d' (over b (take (length d' - c) (drop c d'))) ≡ over_at c b d' = lent-over c b d' l in
    rw q (p ∙ ap₂ (λ (k : ℕ) (t : List ℕ). over_at k b t) i e ∙ over-lent a b d h)

-- the first and the rest, as a part to the end
pub first_rest : (s : List ℕ) → 1 ≤ length s → get_or s 0 0 ∷ take (length s - 1) (drop 1 s) ≡ s
first_rest [] h = absurd (omega arith)
first_rest (x ∷ s) h = ap (λ (t : List ℕ). x ∷ t) (take_all (suc (length s) - 1) s (omega arith))

-- nothing written from a position on
pub over_none : (n : ℕ) (d : List ℕ) → over_at n [] d ≡ d
unfolding over_at over
over_none n d = take-append-drop n d

-- two numbers stored from a position on, and three
pub set-two : (n a b : ℕ) (d : List ℕ) → n + 2 ≤ length d → set (set d n a) (n + 1) b ≡ over_at n (a ∷ b ∷ []) d
unfolding over_at over
set-two n a b d h =
    let e : drop 2 (drop n d) ≡ drop (n + 2) d = drop-drop 2 n d in
    rw (add-one n, e) (sets-eq (a ∷ b ∷ []) d n h ∙ append_assoc (take n d) (a ∷ b ∷ []) (drop (n + 2) d))

pub set-three : (n a b c : ℕ) (d : List ℕ) → n + 3 ≤ length d → set (set (set d n a) (n + 1) b) (n + 2) c ≡ over_at n (a ∷ b ∷ c ∷ []) d
unfolding over_at over
set-three n a b c d h =
    let e : drop 3 (drop n d) ≡ drop (n + 3) d = drop-drop 3 n d in
    rw (add-one n, add-two n, e) (sets-eq (a ∷ b ∷ c ∷ []) d n h ∙ append_assoc (take n d) (a ∷ b ∷ c ∷ []) (drop (n + 3) d))

pub set-four : (n a b c e : ℕ) (d : List ℕ) → n + 4 ≤ length d → set (set (set (set d n a) (n + 1) b) (n + 2) c) (n + 3) e ≡ over_at n (a ∷ b ∷ c ∷ e ∷ []) d
unfolding over_at over
set-four n a b c e d h =
    let f : drop 4 (drop n d) ≡ drop (n + 4) d = drop-drop 4 n d in
    rw (add-one n, add-two n, add-three n, f) (sets-eq (a ∷ b ∷ c ∷ e ∷ []) d n h ∙ append_assoc (take n d) (a ∷ b ∷ c ∷ e ∷ []) (drop (n + 4) d))

-- one zero more at the front
pub zero-step : (n i : ℕ) (d : List ℕ) → i < n → i < length d → set (take i (replicate n 0) ++ drop i d) i 0 ≡ take (i + 1) (replicate n 0) ++ drop (i + 1) d
zero-step n i d h g =
    let l : i < length (replicate {A = ℕ} n 0) = rw (length-replicate {A = ℕ} n 0) h in
    rw (get_or-replicate {A = ℕ} n i 0 0 h) at (copy_step (replicate n 0) d i l g)

fronted : (a d : List ℕ) → take (length a) (over a d) ≡ a
unfolding over
fronted a d = take-append_seam a (drop (length a) d)

behinded : (a d : List ℕ) → drop (length a) (over a d) ≡ drop (length a) d
unfolding over
behinded a d = drop-append_seam a (drop (length a) d)

-- a second piece from where the first ended
pub over-next : (k : ℕ) (a b d : List ℕ) → k + length a ≤ length d → over_at (k + length a) b (over_at k a d) ≡ over_at k (a ++ b) d
unfolding over_at
over-next k a b d h =
    let p : length (take k d) ≡ k = length-take-le k d (omega arith) in
    let t : take (k + length a) (take k d ++ over a (drop k d)) ≡ take k d ++ a =
    ap (λ (n : ℕ). take (n + length a) (take k d ++ over a (drop k d))) (sym p)
    ∙ take-append-add (take k d) (over a (drop k d)) (length a) ∙ ap (λ (x : List ℕ). take k d ++ x) (fronted a (drop k d)) in
    let r : drop (k + length a) (take k d ++ over a (drop k d)) ≡ drop (length a) (drop k d) =
    ap (λ (n : ℕ). drop (n + length a) (take k d ++ over a (drop k d))) (sym p)
    ∙ drop-append-add (take k d) (over a (drop k d)) (length a) ∙ behinded a (drop k d) in
    rw (t, r, over-append a b (drop k d)) (append_assoc (take k d) a (over b (drop (length a) (drop k d))))

pub length-over_at : (k : ℕ) (s d : List ℕ) → k + length s ≤ length d → length (over_at k s d) ≡ length d
unfolding over_at
length-over_at k s d h =
    let l : length (over s (drop k d)) ≡ length (drop k d) = length_over s (drop k d) (simp length-drop (omega arith)) in
    length-append (take k d) (over s (drop k d)) ∙ rw (l) (simp (length-take, length-drop) (omega arith))
