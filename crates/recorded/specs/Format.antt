-- What stands in a recorded list at a position (crates/replay/README.md); behind its end all octets are 0.
use Rattle.std.specs.Prelude.{ℕ, zero, suc, ◌+◌, ◌*◌, min, List, [], ◌∷◌, ◌++◌, ltb, get_or}
use Rattle.std.proofs.Math.Option
use Rattle.definitions.specs.Basic.{pick}
use Rattle.definitions.specs.Octets.{number_at}

-- so many octets on; no position is behind the greatest
unfoldable pub after : ℕ → ℕ → ℕ
after at n = min (at + n) 18446744073709551615

-- the number of n octets; 0 where there are fewer
abbrev pub number_from : ℕ → ℕ → List ℕ → ℕ
number_from n at s = Option.get_or (number_at n at s) 0

-- the values of a function at the first n numbers
unfoldable pub first : (ℕ → ℕ) → ℕ → List ℕ
first f zero = []
first f (suc n) = first f n ++ (f n ∷ [])

-- numbers: two octets say how many, and each has four; the number i of them
abbrev pub number_in : ℕ → List ℕ → ℕ → ℕ
number_in at s i = number_from 4 (after at (2 + 4 * i)) s

-- a string: two octets say how many stand there; behind them two octets say how many times the one that follows comes then
abbrev pub repeat_at : ℕ → List ℕ → ℕ
repeat_at at s = after at (2 + number_from 2 at s)

-- two octets for the times, and the octet
abbrev pub string_end : ℕ → List ℕ → ℕ
string_end at s = after (repeat_at at s) 3

abbrev pub string_length : ℕ → List ℕ → ℕ
string_length at s = number_from 2 at s + number_from 2 (repeat_at at s) s

-- the octet i of it, and that which comes many times for all i behind
abbrev pub octet_in : ℕ → List ℕ → ℕ → ℕ
octet_in at s i = pick (ltb i (number_from 2 at s)) (get_or s (after at (2 + i)) 0) (get_or s (after (repeat_at at s) 2) 0)
