-- An answer in a recorded list: its number, how many values it has, and so many values of eight octets.
use Rattle.std.specs.Prelude.{ℕ, ◌+◌, ◌*◌, List, Bool, true, ◌&&◌, eqb, ltb, get_or}
use Rattle.definitions.specs.Basic.{pick}
use Rattle.recorded.specs.Format.{after, number_from}

-- the number of eight octets
abbrev pub eight_from : ℕ → List ℕ → ℕ
eight_from at s = number_from 4 at s * 4294967296 + number_from 4 (after at 4) s

-- whether a value that is there is the recorded one
abbrev pub value_is : ℕ → List ℕ → Bool → ℕ → Bool
value_is at s there x = pick there (eqb (eight_from at s) x) true

-- whether the values are, by five places: how many there are, and the values
abbrev pub values_are : ℕ → List ℕ → List ℕ → Bool
values_are at s v = value_is at s (ltb 0 (get_or v 0 0)) (get_or v 1 0) && (value_is (after at 8) s (ltb 1 (get_or v 0 0)) (get_or v 2 0) && (value_is (after at 16) s (ltb 2 (get_or v 0 0)) (get_or v 3 0) && value_is (after at 24) s (ltb 3 (get_or v 0 0)) (get_or v 4 0)))

-- whether a number and the places are the answer at a position
unfoldable pub answer_is : ℕ → List ℕ → ℕ → List ℕ → Bool
answer_is at s number v = eqb (get_or s at 0) number && (eqb (get_or s (after at 1) 0) (get_or v 0 0) && values_are (after at 2) s v)
