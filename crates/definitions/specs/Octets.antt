-- Reading octets at a position ("Pieces in port order", 1). Past the end there is nothing, and nothing is read.
use Rattle.std.specs.Prelude.{ℕ, ◌+◌, ◌*◌, ◌^◌, ◌-◌, List, [], ◌∷◌, length, take, drop, leb}
use Rattle.std.proofs.Math.Option.{Option, none, some, map}
use Rattle.definitions.specs.Basic.{pick}

-- how many octets there are from a position on
unfoldable pub remaining : ℕ → List ℕ → ℕ
remaining at s = length s - at

-- the n octets from a position on, where there are as many
unfoldable pub run : ℕ → ℕ → List ℕ → Option (List ℕ)
run n at s = pick (leb (at + n) (length s)) (some (take n (drop at s))) none

-- the number that octets are, the high one first ("Rows of a table", TLV-E)
unfoldable pub number : List ℕ → ℕ
number [] = 0
number (x ∷ xs) = x * 256 ^ length xs + number xs

-- the number of n octets at a position
unfoldable pub number_at : ℕ → ℕ → List ℕ → Option ℕ
number_at n at s = map number (run n at s)
