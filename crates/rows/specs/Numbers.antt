-- The numbers of a row, with its first IEI alone, taken at once where the table has the whole row.
use Rattle.std.specs.Prelude.{ℕ, ◌*◌, ◌/◌, ◌≡◌, List, [], ◌∷◌, length, get_or, drop, ltb}
use Rattle.definitions.specs.Basic.{pick}
use Rattle.definitions.specs.Rows.{Row, rows_of, row_at, first_iei, width}
use Rattle.rows.specs.declared.columns.Numbers.{Numbers}

-- those at the front of a list
abbrev pub numbers_of : List ℕ → Numbers
numbers_of s = record { count = get_or s 0 0; first = get_or s 1 0; code = get_or s 5 0; size = get_or s 6 0; least = get_or s 7 0; greatest = get_or s 8 0; kinds = get_or s 9 0 }

abbrev pub no_numbers : Numbers
no_numbers = record { count = 0; first = 0; code = 0; size = 0; least = 0; greatest = 0; kinds = 0 }

unfoldable pub numbers_at : List ℕ → ℕ → Numbers
numbers_at table k = pick (ltb k (length table / width)) (numbers_of (drop (width * k) table)) no_numbers

-- a row with these numbers
abbrev pub row_said : Numbers → Row
row_said n = record { count = n.count; slots = n.first ∷ []; code = n.code; size = n.size; least = n.least; greatest = n.greatest; kinds = n.kinds }

-- every row's numbers are those of the definitions
pub record Whole (table : List ℕ) : Type 0 where
  pub count : (k : ℕ) → (numbers_at table k).count ≡ (row_at (rows_of table) k).count
  pub first : (k : ℕ) → (numbers_at table k).first ≡ first_iei (rows_of table) k
  pub code : (k : ℕ) → (numbers_at table k).code ≡ (row_at (rows_of table) k).code
  pub size : (k : ℕ) → (numbers_at table k).size ≡ (row_at (rows_of table) k).size
  pub least : (k : ℕ) → (numbers_at table k).least ≡ (row_at (rows_of table) k).least
  pub greatest : (k : ℕ) → (numbers_at table k).greatest ≡ (row_at (rows_of table) k).greatest
  pub kinds : (k : ℕ) → (numbers_at table k).kinds ≡ (row_at (rows_of table) k).kinds
