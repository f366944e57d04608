-- What is left of a word gives, behind the digits so far, the number that the word gives.
-- By the front of what is left.
use Rattle.std.proofs.Common.{ℕ, ◌+◌, ◌<◌, ◌≤◌, ◌≡◌, List, [], ◌∷◌, length, get_or, drop, drop-cons, add-one, refl, arith}
use Rattle.std.specs.Prelude.{Some, None}
use Rattle.std.proofs.Math.ListN.{drop_of_length-le}
use Rattle.arguments.specs.Words.{with_digit, digits_from, number_of}

module _ (w : List ℕ) (i n : ℕ) where
  pub more : (m : ℕ) → i < length w → with_digit n (get_or w i 0) ≡ Some m → digits_from m (drop (i + 1) w) ≡ digits_from n (drop i w)
  unfolding digits_from
  more m h e = rw (add-one, drop-cons w i 0 h, digits_from, e)

  pub no_more : i < length w → with_digit n (get_or w i 0) ≡ None → None ≡ digits_from n (drop i w)
  unfolding digits_from
  no_more h e = rw (drop-cons w i 0 h, digits_from, e)

  pub at_end : length w ≤ i → Some n ≡ digits_from n (drop i w)
  unfolding digits_from
  at_end h = rw (drop_of_length-le w h)

pub of_empty : (w : List ℕ) → length w ≤ 0 → None ≡ number_of w
unfolding number_of
of_empty [] h = refl
of_empty (x ∷ w) h = absurd (omega arith)

pub of_more : (w : List ℕ) → 1 ≤ length w → digits_from 0 w ≡ number_of w
unfolding number_of
of_more [] h = absurd (omega arith)
of_more (x ∷ w) h = refl
