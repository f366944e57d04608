-- What lent memory holds after a case, and the counts of the cases.
use Rattle.std.specs.Prelude.{ℕ, ◌+◌, min, List, Bool, not, ◌&&◌, eqb, ltb, leb, length, get_or, set}
use Rattle.definitions.specs.Basic.{pick}
use Rattle.definitions.specs.Values.{any_of}
use Rattle.recorded.specs.Format.{number_from, number_in, string_length, octet_in}

-- what all lent memory holds before a case
abbrev pub lent_octet : ℕ
lent_octet = 0xa5

abbrev pub lent_number : ℕ
lent_number = 0xa5a5a5a5

-- whether a buffer is another one than a function says, somewhere
abbrev pub differs : (ℕ → ℕ) → List ℕ → Bool
differs f s = any_of (λ i. not (eqb (get_or s i 0) (f i))) (length s)

-- whether a buffer holds n things, and what was lent behind them
abbrev pub holds : ℕ → (ℕ → ℕ) → ℕ → List ℕ → Bool
holds n f lent s = not (differs (λ i. pick (ltb i n) (f i) lent) s) && leb n (length s)

-- whether it holds the string, or the numbers, at a position of a list
unfoldable pub octets_are : ℕ → List ℕ → List ℕ → Bool
octets_are at list s = holds (string_length at list) (octet_in at list) lent_octet s

unfoldable pub numbers_are : ℕ → List ℕ → List ℕ → Bool
numbers_are at list s = holds (number_from 2 at list) (number_in at list) lent_number s

-- one more of the count k; the greatest count stays
abbrev pub raised : ℕ → List ℕ → List ℕ
raised k s = set s k (min (get_or s k 0 + 1) 4294967295)
