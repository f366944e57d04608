-- Laws of reading octets: a run and a number at a position, there or short, over the number of octets.
-- The test of a run is settled once by the comparison; a number of one octet more is one more digit in front.
use Prim.Native.Nat.{ℕ, suc, ◌+◌, ◌*◌, ◌^◌, ◌≤◌, ◌<◌}
use native.Mathlib.Omega.{arith}
use mathlib.Core.Path.{◌≡◌, ap, ◌∙◌}
use mathlib.Core.List.{List, ◌∷◌}
use mathlib.Core.Option.{none, some}
use borrow.Author.Tests.{le-leb, lt-leb}
use lib.ListN.{length, get_or, take, drop, length-take, length-drop}
use lib.Seq.{drop-cons}
use Rattle.definitions.specs.Octets.{run, number, number_at}

module _ (n at : ℕ) (s : List ℕ) where
  pub run-there : at + n ≤ length s → run n at s ≡ some (take n (drop at s))
  unfolding run
  run-there h = rw (le-leb (at + n) (length s) h)

  pub run_short : length s < at + n → run n at s ≡ none
  unfolding run
  run_short h = rw (lt-leb (at + n) (length s) h)

  pub number-there : at + n ≤ length s → number_at n at s ≡ some (number (take n (drop at s)))
  unfolding number_at
  number-there h = rw (run-there h)

  pub number_short : length s < at + n → number_at n at s ≡ none
  unfolding number_at
  number_short h = rw (run_short h)

-- one octet more, in front
pub take-front : (n at : ℕ) (s : List ℕ) → at + suc n ≤ length s → take (suc n) (drop at s) ≡ get_or s at 0 ∷ take n (drop (suc at) s)
take-front n at s h =
    let l : at < length s = omega arith in
    ap (λ (t : List ℕ). take (suc n) t) (drop-cons s at 0 l)

pub number-front : (n at : ℕ) (s : List ℕ) → at + suc n ≤ length s
    → number (take (suc n) (drop at s)) ≡ get_or s at 0 * 256 ^ n + number (take n (drop (suc at) s))
unfolding number
number-front n at s h =
    let l : length (take n (drop (suc at) s)) ≡ n = simp (length-take, length-drop) (omega arith) in
    ap number (take-front n at s h) ∙ ap (λ (k : ℕ). get_or s at 0 * 256 ^ k + number (take n (drop (suc at) s))) l

-- the numbers of one, two and four octets: a digit taken off in front, again and again
pub number-one : (at : ℕ) (s : List ℕ) → at + 1 ≤ length s → number_at 1 at s ≡ some (get_or s at 0)
unfolding number
number-one at s h =
    let a : number (take 1 (drop at s)) ≡ get_or s at 0 * 1 + 0 = number-front 0 at s h in
    let v : number (take 1 (drop at s)) ≡ get_or s at 0 = omega arith in
    number-there 1 at s h ∙ ap some v

-- the digit at an offset, by the code's sum
module _ (n at k : ℕ) (s : List ℕ) (h : at + k + suc n ≤ length s) where
  pub digit : number (take (suc n) (drop (at + k) s)) ≡ get_or s (at + k) 0 * 256 ^ n + number (take n (drop (at + (k + 1)) s))
  digit =
      let e : suc (at + k) ≡ at + (k + 1) = omega arith in
      number-front n (at + k) s h ∙ ap (λ (j : ℕ). get_or s (at + k) 0 * 256 ^ n + number (take n (drop j s))) e

pub number-two : (at : ℕ) (s : List ℕ) → at + 2 ≤ length s → number_at 2 at s ≡ some (get_or s at 0 * 256 + get_or s (at + 1) 0)
unfolding number
number-two at s h =
    let a : number (take 2 (drop at s)) ≡ get_or s at 0 * 256 + number (take 1 (drop (suc at) s)) = number-front 1 at s h in
    let e : suc at ≡ at + 1 = omega arith in
    let a' : number (take 1 (drop (suc at) s)) ≡ number (take 1 (drop (at + 1) s)) = ap (λ (j : ℕ). number (take 1 (drop j s))) e in
    let b : number (take 1 (drop (at + 1) s)) ≡ get_or s (at + 1) 0 * 1 + 0 = digit 0 at 1 s (omega arith) in
    let v : number (take 2 (drop at s)) ≡ get_or s at 0 * 256 + get_or s (at + 1) 0 = omega arith in
    number-there 2 at s h ∙ ap some v

pub number-four : (at : ℕ) (s : List ℕ) → at + 4 ≤ length s
    → number_at 4 at s ≡ some ((get_or s at 0 * 256 + get_or s (at + 1) 0) * 65536 + (get_or s (at + 2) 0 * 256 + get_or s (at + 3) 0))
unfolding number
number-four at s h =
    let a : number (take 4 (drop at s)) ≡ get_or s at 0 * 16777216 + number (take 3 (drop (suc at) s)) = number-front 3 at s h in
    let e : suc at ≡ at + 1 = omega arith in
    let a' : number (take 3 (drop (suc at) s)) ≡ number (take 3 (drop (at + 1) s)) = ap (λ (j : ℕ). number (take 3 (drop j s))) e in
    let b : number (take 3 (drop (at + 1) s)) ≡ get_or s (at + 1) 0 * 65536 + number (take 2 (drop (at + 2) s)) = digit 2 at 1 s (omega arith) in
    let c : number (take 2 (drop (at + 2) s)) ≡ get_or s (at + 2) 0 * 256 + number (take 1 (drop (at + 3) s)) = digit 1 at 2 s (omega arith) in
    let d : number (take 1 (drop (at + 3) s)) ≡ get_or s (at + 3) 0 * 1 + 0 = digit 0 at 3 s (omega arith) in
    let v : number (take 4 (drop at s)) ≡ (get_or s at 0 * 256 + get_or s (at + 1) 0) * 65536 + (get_or s (at + 2) 0 * 256 + get_or s (at + 3) 0) = omega arith in
    number-there 4 at s h ∙ ap some v
