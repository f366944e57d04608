-- One block for both logs (document 02, item 11).
use Rattle.std.specs.Prelude.{ℕ, ◌+◌, ◌*◌, ◌≤◌, ◌≡◌, List, [], Bool, length, get_or, take, drop}
use Rattle.definitions.specs.Basic.{most_octets}
use Rattle.definitions.specs.Rows.{Row, rows_of}
use Rattle.definitions.specs.Tables.{table_p}
use Rattle.definitions.specs.Elements.{Element, elements, parted}
use Rattle.definitions.specs.Logs.{kept_of, order_of}
use Rattle.definitions.specs.Reading.{Lent, Read, reading}
use Rattle.definitions.specs.Block.{ReadBlock, two_parts, reading_block}
use Rattle.promises.specs.Room.{Readable}
use Rattle.promises.specs.RoundTrip.{AreOctets, written_back, gives}

-- ---- "the used octets of the kept and order logs together never exceed three times the part's length"

-- for every table, start number, option and part that decodes
abbrev pub BothRoom : Type 0
BothRoom =
    (t : List Row) (start : ℕ) (option : Bool) (part : List ℕ) (es : List Element) → parted t start option part ≡ elements es
    → length (kept_of es) + length (order_of t es) ≤ 3 * length part

-- ---- "every length from 1 to 65,535 has a table and part that reach it"

-- a part of n octets that decodes under a table that passes, and whose logs together take three times as many
pub record Reaches (table : List ℕ) (start : ℕ) (option : Bool) (n : ℕ) : Type 0 where
  pub part : List ℕ
  pub octets : AreOctets part
  pub long : length part ≡ n
  pub readable : Readable table part
  pub elements' : List Element
  pub decodes : parted (rows_of table) start option part ≡ elements elements'
  pub reached : length (kept_of elements') + length (order_of (rows_of table) elements') ≡ 3 * n

-- the empty table has one for every length, and so has table P, with every start number and the option on or off
abbrev pub BothReached : Type 0
BothReached = (start : ℕ) (option : Bool) (n : ℕ) → 1 ≤ n → n ≤ most_octets → Reaches [] start option n × Reaches table_p start option n

-- ---- "a reading entry that takes one block and puts the kept log first, the order log behind it"

-- the octets used of the kept log, as a reading into a block answers them
unfoldable pub kept_used : ReadBlock → ℕ
kept_used b = get_or b.said.values 0 0

-- what such a reading leaves, its block split there into two logs
unfoldable pub in_two : ReadBlock → Read
in_two b = record { said = b.said; rows = b.rows; kept = take (kept_used b) b.block; order = drop (kept_used b) b.block }

-- where it is done, it leaves in the two parts of the block just what reading leaves in them, and answers the same
abbrev pub BlockReads : Type 0
BlockReads =
    (table : List ℕ) (start : ℕ) (option : Bool) (part rows block : List ℕ) → (reading_block table start option part rows block).said.number ≡ 0
    → reading table start option part (two_parts rows block (kept_used (reading_block table start option part rows block))) ≡ in_two (reading_block table start option part rows block)

-- so the two parts can be lent to writing, which gives the part back
abbrev pub BlockRoundTrip : Type 0
BlockRoundTrip =
    (table : List ℕ) (start : ℕ) (option : Bool) (part rows block set output : List ℕ) → AreOctets part → (reading_block table start option part rows block).said.number ≡ 0
    → length part ≤ length output → written_back table part (in_two (reading_block table start option part rows block)) set output ≡ gives part output

-- a block of three times the part is enough: where reading with two logs is done, reading into it is, with the same answer
abbrev pub BlockDone : Type 0
BlockDone =
    (table : List ℕ) (start : ℕ) (option : Bool) (part : List ℕ) (l : Lent) (block : List ℕ) → (reading table start option part l).said.number ≡ 0 → 3 * length part ≤ length block
    → (reading_block table start option part l.rows block).said ≡ (reading table start option part l).said
