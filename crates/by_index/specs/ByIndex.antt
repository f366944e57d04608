-- The rows of a table, each under the IEIs for which an index has its place. Reading by a table and any index is reading by these rows;
-- where the index is the table's own it is reading by the table.
use Rattle.std.specs.Prelude.{ℕ, zero, suc, List, [], ◌∷◌, length, get_or, eqb}
use Rattle.definitions.specs.Basic.{pick}
use Rattle.definitions.specs.Rows.{Row, most_places}
use Rattle.rows.specs.Numbers.{numbers_at}
use Rattle.rows.specs.declared.columns.Numbers.{Numbers}

-- of n IEIs from one on, those that an index has at a place
unfoldable pub ieis_from : List ℕ → ℕ → ℕ → ℕ → List ℕ
ieis_from index k iei zero = []
ieis_from index k iei (suc n) = pick (eqb (get_or index iei 0) k) (iei ∷ ieis_from index k (suc iei) n) (ieis_from index k (suc iei) n)

-- a row's first IEI, where the index has it at the row's place; else 256, which no octet is
unfoldable pub first_by : List ℕ → ℕ → ℕ → ℕ
first_by index k iei = pick (eqb (get_or index iei 0) k) iei 256

-- the row of a place: its numbers by the table, its IEIs by the index
unfoldable pub row_by : List ℕ → List ℕ → ℕ → Row
row_by table index k =
    let n : Numbers = numbers_at table k in
    let ieis : List ℕ = first_by index k n.first ∷ ieis_from index k 0 256 in
    record { count = length ieis; slots = ieis; code = n.code; size = n.size; least = n.least; greatest = n.greatest; kinds = n.kinds }

unfoldable pub rows_from : List ℕ → List ℕ → ℕ → ℕ → List Row
rows_from table index k zero = []
rows_from table index k (suc n) = row_by table index k ∷ rows_from table index (suc k) n

-- a row for each place that a table may have: an entry from 128 on is none
unfoldable pub rows_by : List ℕ → List ℕ → List Row
rows_by table index = rows_from table index 0 most_places
