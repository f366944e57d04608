-- Reading into one block (document 02, item 11): the kept log first, the order log directly behind it.
use Rattle.std.specs.Prelude.{ℕ, List, [], ◌∷◌, ◌++◌, Bool, length, take, drop, ltb}
use Rattle.std.proofs.Math.Option.{Option, none, some}
use Rattle.definitions.specs.Basic.{Answer, answer, refusal, refuse, unless, over}
use Rattle.definitions.specs.Rows.{Row, rows_of}
use Rattle.definitions.specs.Tables.{table_of, start_of}
use Rattle.definitions.specs.Elements.{Element, Parted, parted, elements_of}
use Rattle.definitions.specs.Logs.{kept_of, order_of}
use Rattle.definitions.specs.Reading.{place_rows, Lent, reading_checks}

-- the answer, and the lent rows and block, afterwards
pub record ReadBlock : Type 0 where
  pub said : Answer
  pub rows : List ℕ
  pub block : List ℕ

-- a refusal changes nothing lent
abbrev pub unread_block : List ℕ → List ℕ → Answer → ReadBlock
unread_block rows block a = record { said = a; rows = rows; block = block }

-- a block as the two logs of a reading, split at a count
abbrev pub two_parts : List ℕ → List ℕ → ℕ → Lent
two_parts rows block k = record { rows = rows; kept = take k block; order = drop k block }

-- both logs of a part, one behind the other
unfoldable pub both_logs : List Row → List Element → List ℕ
both_logs t es = kept_of es ++ order_of t es

-- reading's first four checks, 4, 3, 2 (1) and 1, which look at no log; then 2 (2) where the two logs together do not fit
unfoldable pub block_checks : List Row → List ℕ → List ℕ → List ℕ → Parted → List (Option Answer)
block_checks t part rows block p =
    take 4 (reading_checks t part (two_parts rows block 0) p)
    ++ (refuse (ltb (length block) (length (both_logs t (elements_of p)))) 2 (2 ∷ []) ∷ [])

-- what is left where it is done: the octets used of each log, the rows and both logs, and all else as it was
unfoldable pub read_block : List Row → List ℕ → List ℕ → List Element → ReadBlock
read_block t rows block es =
    record { said = answer 0 (length (kept_of es) ∷ length (order_of t es) ∷ []); rows = over (place_rows t es) rows; block = over (both_logs t es) block }

-- by a lent table: start number, option, part, lent rows and block
unfoldable pub reading_block : List ℕ → ℕ → Bool → List ℕ → List ℕ → List ℕ → ReadBlock
reading_block table start option part rows block =
    let t : List Row = rows_of table in
    let p : Parted = parted t start option part in
    unless (refusal (block_checks t part rows block p)) (unread_block rows block) (read_block t rows block (elements_of p))

-- the same by table number, with that table's start number: refusal 5, checked first, where there is none
unfoldable pub reading_block_by : ℕ → Bool → List ℕ → List ℕ → List ℕ → ReadBlock
reading_block_by n option part rows block =
    elim (table_of n) [
      | none ↦ unread_block rows block (answer 5 [])
      | some table ↦ reading_block table start_of option part rows block
    ]
