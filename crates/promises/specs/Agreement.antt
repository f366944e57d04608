-- The IEI in a place row agrees with the order log, in all rows that our calls made; reading into a block leaves those of reading
-- (`BlockReads`).
use Rattle.std.specs.Prelude.{ℕ, ◌≡◌, List, Bool, false, get_or}
use Rattle.definitions.specs.Basic.{Used, content}
use Rattle.definitions.specs.Rows.{rows_of}
use Rattle.definitions.specs.Logs.{order_list, or_empty}
use Rattle.definitions.specs.Reading.{Lent, reading}
use Rattle.definitions.specs.Values.{apart, setting, clearing}

-- place rows beside an order log: as a reading that is done left both, and as settings by that log and clearings made them from there,
-- as many as there are and in any order, refused ones too
pub data Made (table : List ℕ) : Used → List ℕ → Type 0 where
  by-reading : (start : ℕ) (option : Bool) (part : List ℕ) (l : Lent) → (reading table start option part l).said.number ≡ 0
      → Made table (record { buffer = (reading table start option part l).order; used = get_or (reading table start option part l).said.values 1 0 }) (reading table start option part l).rows
  by-setting : {order : Used} {rows : List ℕ} → Made table order rows → (received : List ℕ) (set : Used) (k : ℕ) (new : List ℕ) → Made table order (setting table rows received set order k new).rows
  by-clearing : {order : Used} {rows : List ℕ} → Made table order rows → (received : List ℕ) (set : Used) (k : ℕ) → Made table order (clearing table rows received set k).rows

-- no row of them disagrees, so neither setting nor writing refuses it for that
abbrev pub RowsAgree : Type 0
RowsAgree = (table : List ℕ) (order : Used) (rows : List ℕ) → Made table order rows → apart (rows_of table) (or_empty (order_list (content order))) rows ≡ false
