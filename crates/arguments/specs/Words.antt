-- A word as a number in decimal, below 100,000.
use Rattle.std.specs.Prelude.{ℕ, ◌+◌, ◌*◌, ◌-◌, List, [], ◌∷◌, Bool, ◌&&◌, ltb, leb, Option, Some, None}
use Rattle.definitions.specs.Basic.{pick}

abbrev pub is_digit : ℕ → Bool
is_digit x = leb 48 x && ltb x 58

-- n with a digit behind it: none where it is no digit, or the number gets too large
unfoldable pub with_digit : ℕ → ℕ → Option ℕ
with_digit n x = pick (is_digit x && ltb n 10000) (Some (10 * n + (x - 48))) None

-- the digits behind those of n
unfoldable pub digits_from : ℕ → List ℕ → Option ℕ
digits_from n [] = Some n
digits_from n (x ∷ xs) = elim (with_digit n x) [ Some m ↦ digits_from m xs | None ↦ None ]

unfoldable pub number_of : List ℕ → Option ℕ
number_of [] = None
number_of (x ∷ xs) = digits_from 0 (x ∷ xs)
