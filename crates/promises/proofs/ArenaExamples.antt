-- One block at work under table P: c1 90 10 01 aa fills seven octets, and its two parts are written back. By computation, and by the theorem.
use Prim.Native.Nat.{ℕ}
use native.Mathlib.Omega.{arith}
use mathlib.Core.Path.{◌≡◌, refl}
use mathlib.Core.List.{List, [], ◌∷◌}
use mathlib.Core.Bool.{false}
use lib.ListN.{replicate}
use Rattle.definitions.specs.Basic.{among, concat, refusal, over, bit, receivable}
use Rattle.definitions.specs.Octets.{run, number, number_at}
use Rattle.definitions.specs.Rows.{row_of, rows_f, rows_of, ieis, form_of, form, good_iei, all_good, fresh, good_row, first_bad_from, first_bad, iei_of, place_from, place_of, row_at, first_iei}
use Rattle.definitions.specs.Tables.{row, table_p, start_of}
use Rattle.definitions.specs.Length.{header, length_by, stated, within, whole, unknown_form, unknown_length, required}
use Rattle.definitions.specs.Elements.{iei_at, including, meet, taken_by, taken, judged, octets_of, known, stranger, stranger_step, place_step, step, before, step_then, parted_f, parted, elements_of, is_accepted, is_at}
use Rattle.definitions.specs.Logs.{leb_f, leb128, kept_entry, kept_of, placed_of, order_entry, entries_of, plain_from, order_of, plain_at, or_empty, order_list_f, order_list, iei_for}
use Rattle.definitions.specs.Reading.{received, place_row, place_rows_from, place_rows, cut_of, reading_checks}
use Rattle.definitions.specs.Block.{both_logs, block_checks, read_block, reading_block}
use Rattle.promises.specs.RoundTrip.{written_back, gives}
use Rattle.promises.specs.Arena.{in_two}
use Rattle.promises.proofs.Examples.{are-octets}
use Rattle.promises.proofs.Arena.{block-round-trip}

abbrev part : List ℕ
part = 0xc1 ∷ 0x90 ∷ 0x10 ∷ 0x01 ∷ 0xaa ∷ []

pub block-done-here : (reading_block table_p start_of false part (replicate 20 9) (replicate 7 9)).said.number ≡ 0
unfolding among concat refusal over bit receivable run number number_at row_of rows_f rows_of ieis form_of form good_iei all_good fresh good_row first_bad_from first_bad iei_of place_from place_of row_at first_iei row table_p header length_by stated within whole unknown_form unknown_length required iei_at including meet taken_by taken judged octets_of known stranger stranger_step place_step step before step_then parted_f parted elements_of is_accepted is_at leb_f leb128 kept_entry kept_of placed_of order_entry entries_of plain_at plain_from order_of received place_row place_rows_from place_rows cut_of reading_checks both_logs block_checks read_block reading_block or_empty order_list_f order_list iei_for
block-done-here = refl

pub block_back : written_back table_p part (in_two (reading_block table_p start_of false part (replicate 20 9) (replicate 7 9))) (replicate 4 7) (replicate 6 7) ≡ gives part (replicate 6 7)
block_back = block-round-trip table_p start_of false part (replicate 20 9) (replicate 7 9) (replicate 4 7) (replicate 6 7) (are-octets part refl) block-done-here (omega arith)
