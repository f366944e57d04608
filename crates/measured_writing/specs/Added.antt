-- What is written, as it is lent; and the elements of the added places.
use Rattle.std.specs.Prelude.{ℕ, zero, suc, ◌-◌, ◌≡◌, List, [], ◌∷◌}
use Rattle.definitions.specs.Basic.{pick, bit}
use Rattle.definitions.specs.Rows.{rows_of, index}
use Rattle.definitions.specs.Writing.{Filled, firsts}
use Rattle.values.specs.Rows.{sources_of}

-- what is written, as it is lent
abbrev pub filled_of : List ℕ → List ℕ → List ℕ → List ℕ → Filled
filled_of table rows received set = record { table = rows_of table; rows = rows; octets = sources_of received set }

-- the index of a table
abbrev pub IndexIs : List ℕ → List ℕ → Type 0
IndexIs table entries = entries ≡ index (rows_of table)

-- the places of a set among the n from k on
unfoldable pub added_in : ℕ → ℕ → ℕ → List ℕ
added_in set k zero = []
added_in set k (suc n) = pick (bit k set) (k ∷ added_in set (suc k) n) (added_in set (suc k) n)

-- the elements of those from a place on, up to another
unfoldable pub added_octets : Filled → ℕ → ℕ → ℕ → List ℕ
added_octets m set from to = firsts m (added_in set from (to - from))
