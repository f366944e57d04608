-- Examples of reading into one block under table P: what is left of it, and the room that is just enough, by computation.
use Prim.Native.Nat.{ℕ}
use mathlib.Core.Path.{◌≡◌, refl}
use mathlib.Core.List.{List, [], ◌∷◌, map}
use mathlib.Core.Bool.{false}
use lib.ListN.{replicate}
use Rattle.definitions.specs.Basic.{Answer, answer, among, concat, refusal, over, bit, receivable}
use Rattle.definitions.specs.Octets.{run, number, number_at}
use Rattle.definitions.specs.Rows.{row_of, rows_f, rows_of, ieis, form_of, form, good_iei, all_good, fresh, good_row, first_bad_from, first_bad, iei_of, place_from, place_of, row_at, first_iei}
use Rattle.definitions.specs.Tables.{row, table_p, start_of}
use Rattle.definitions.specs.Length.{header, length_by, stated, within, whole, unknown_form, unknown_length, lacking, missing, required}
use Rattle.definitions.specs.Elements.{iei_at, including, meet, taken_by, taken, judged, octets_of, known, stranger, stranger_step, place_step, step, before, step_then, parted_f, parted, elements_of, is_accepted, is_at}
use Rattle.definitions.specs.Logs.{leb_f, leb128, kept_entry, kept_of, placed_of, order_entry, entries_of, plain_from, order_of, plain_at, or_empty, order_list_f, order_list, iei_for}
use Rattle.definitions.specs.Reading.{received, place_row, place_rows_from, place_rows, cut_of, reading_checks}
use Rattle.definitions.specs.Block.{ReadBlock, both_logs, block_checks, read_block, reading_block}

-- a part, the octets of a block of so many sevens, and what is answered and left
pub record BlockExample : Type 0 where
  pub part : List ℕ
  pub size : ℕ
  pub said : Answer
  pub block : List ℕ

abbrev example : List ℕ → ℕ → Answer → List ℕ → BlockExample
example part size said block = record { part = part; size = size; said = said; block = block }

-- c1 90 10 01 aa needs two octets of the kept log and five of the order log; of a part that the table says all of nothing is kept; a
-- cut comes before the room
unfoldable pub blocks : List BlockExample
blocks =
    example (0xc1 ∷ 0x90 ∷ 0x10 ∷ 0x01 ∷ 0xaa ∷ []) 8 (answer 0 (2 ∷ 5 ∷ [])) (0x01 ∷ 0x90 ∷ 0x00 ∷ 0xc0 ∷ 0x01 ∷ 0x00 ∷ 0x10 ∷ 7 ∷ [])
    ∷ example (0xc1 ∷ 0x90 ∷ 0x10 ∷ 0x01 ∷ 0xaa ∷ []) 7 (answer 0 (2 ∷ 5 ∷ [])) (0x01 ∷ 0x90 ∷ 0x00 ∷ 0xc0 ∷ 0x01 ∷ 0x00 ∷ 0x10 ∷ [])
    ∷ example (0xc1 ∷ 0x90 ∷ 0x10 ∷ 0x01 ∷ 0xaa ∷ []) 6 (answer 2 (2 ∷ [])) (replicate 6 7)
    ∷ example (0xc1 ∷ 0x10 ∷ 0x01 ∷ 0xaa ∷ []) 1 (answer 0 (0 ∷ 0 ∷ [])) (7 ∷ [])
    ∷ example (0x31 ∷ 0x01 ∷ 0x02 ∷ []) 2 (answer 0 (0 ∷ 2 ∷ [])) (0x00 ∷ 0x31 ∷ [])
    ∷ example (0x31 ∷ 0x01 ∷ 0x02 ∷ []) 1 (answer 2 (2 ∷ [])) (7 ∷ [])
    ∷ example (0x90 ∷ 0x05 ∷ 0x02 ∷ 0xaa ∷ []) 0 (answer 1 (1 ∷ 5 ∷ 3 ∷ 1 ∷ [])) ([])
    ∷ []

abbrev given : BlockExample → BlockExample
given x =
    let r : ReadBlock = reading_block table_p start_of false x.part (replicate 20 9) (replicate x.size 7) in
    example x.part x.size r.said r.block

pub blocks-hold : map given blocks ≡ blocks
unfolding blocks among concat refusal over bit receivable run number number_at row_of rows_f rows_of ieis form_of form good_iei all_good fresh good_row first_bad_from first_bad iei_of place_from place_of row_at first_iei row table_p header length_by stated within whole unknown_form unknown_length lacking missing required iei_at including meet taken_by taken judged octets_of known stranger stranger_step place_step step before step_then parted_f parted elements_of is_accepted is_at leb_f leb128 kept_entry kept_of placed_of order_entry entries_of plain_at plain_from order_of received place_row place_rows_from place_rows cut_of reading_checks both_logs block_checks read_block reading_block or_empty order_list_f order_list iei_for
blocks-hold = refl
