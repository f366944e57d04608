-- What is promised of the checker at work: a part that is accepted and comes back, one that is written and is accepted, octets in front of
-- an offender, and two tables that differ in greatest lengths alone. The premises compute, and each example is its theorem's.
use Prim.Native.Nat.{ℕ, zero, suc, ◌<◌}
use native.Mathlib.Omega.{arith}
use mathlib.Core.Path.{◌≡◌, refl}
use mathlib.Core.List.{List, [], ◌∷◌}
use mathlib.Core.Bool.{true, false}
use lib.ListN.{length, replicate}
use Rattle.definitions.specs.Basic.{over, concat, refusal, bit, receivable, among, answer, is_none, content, too_long}
use Rattle.definitions.specs.Octets.{run, number, number_at}
use Rattle.definitions.specs.Rows.{row_of, rows_f, rows_of, ieis, form_of, form, good_iei, all_good, fresh, good_row, first_bad_from, first_bad, iei_of, place_from, place_of, row_at, first_iei}
use Rattle.definitions.specs.Tables.{row, table_p, start_of}
use Rattle.definitions.specs.Length.{header, length_by, stated, within, whole, unknown_form, unknown_length, lacking, missing, required}
use Rattle.definitions.specs.Elements.{iei_at, including, meet, taken_by, taken, judged, octets_of, known, stranger, stranger_step, place_step, step, before, step_then, parted_f, parted, elements_of, is_accepted, is_at}
use Rattle.definitions.specs.Logs.{plain_at, or_empty, order_list, order_list_f, kept_list, kept_list_f, iei_for}
use Rattle.definitions.specs.Reading.{cut_of, Lent, reading}
use Rattle.definitions.specs.Checking.{offender, checking_checks, checking}
use Rattle.definitions.specs.Values.{value_at, present, source_of, octets_at, good_value, first_from, bad_rows, fits, unfit_at, values_too_long, value_in, unlike, apart_at, apart}
use Rattle.definitions.specs.Writing.{encoded, element_at, logged, added_from, firsts, walked, written, unfit, octets_in, octets_for, writing_checks, writing}
use Rattle.promises.specs.RoundTrip.{gives}
use Rattle.promises.specs.Checked.{bare, unused, Returned, Meets, filled}
use Rattle.promises.proofs.Examples.{are-octets}
use Rattle.promises.proofs.Ignored.{greatest-ignored}
use Rattle.promises.proofs.Accepted.{accepted-written, front-accepted}
use Rattle.promises.proofs.Meeting.{writer-accepted}

-- ---- an accepted part comes back

abbrev part : List ℕ
part = 0xc1 ∷ 0x10 ∷ 0x01 ∷ 0xaa ∷ []

abbrev lent : Lent
lent = record { rows = replicate 20 9; kept = 9 ∷ []; order = [] }

abbrev output : List ℕ
output = replicate 5 7

accepted : checking table_p start_of part ≡ answer 0 []
unfolding concat refusal bit receivable among run number number_at row_of rows_f rows_of ieis form_of form good_iei all_good fresh good_row first_bad_from first_bad iei_of place_from place_of row_at first_iei row table_p header length_by stated within whole unknown_form unknown_length lacking missing required iei_at including meet taken_by taken judged octets_of known stranger stranger_step place_step step before step_then parted_f parted elements_of is_accepted is_at cut_of plain_at over offender checking_checks checking
accepted = refl

places : length (rows_of table_p) ≡ 5
unfolding concat row_of rows_f rows_of row table_p
places = refl

pub returned-example : Returned table_p part lent (reading table_p start_of true part lent) [] (9 ∷ []) [] output
returned-example = accepted-written table_p start_of true part lent [] (9 ∷ []) [] output (are-octets part refl) accepted (omega (arith, places)) (omega arith)

-- ---- in front of an offender

refused : checking table_p start_of (0xc1 ∷ 0x90 ∷ 0x10 ∷ []) ≡ answer 29 (1 ∷ [])
unfolding concat refusal bit receivable among run number number_at row_of rows_f rows_of ieis form_of form good_iei all_good fresh good_row first_bad_from first_bad iei_of place_from place_of row_at first_iei row table_p header length_by stated within whole unknown_form unknown_length lacking missing required iei_at including meet taken_by taken judged octets_of known stranger stranger_step place_step step before step_then parted_f parted elements_of is_accepted is_at cut_of plain_at over offender checking_checks checking
refused = refl

pub front-example : checking table_p start_of (0xc1 ∷ []) ≡ answer 0 []
front-example = (front-accepted table_p start_of (0xc1 ∷ 0x90 ∷ 0x10 ∷ []) 1 refused).1

-- ---- values that meet the rows: one TLV, of just the greatest length, its value a set octet

abbrev one : List ℕ
one = row 0x10 2 0 3 3 255

abbrev rows : List ℕ
rows = 2 ∷ 0 ∷ 1 ∷ 0x10 ∷ []

abbrev written-part : List ℕ
written-part = 0x10 ∷ 0x01 ∷ 0xaa ∷ []

single : length (rows_of one) ≡ 1
unfolding row_of rows_f rows_of row
single = refl

meets : (k : ℕ) → k < length (rows_of one) → present (value_at rows k) ≡ true → Meets (filled one rows [] (record { buffer = 0xaa ∷ []; used = 1 })) k
unfolding row_of rows_f rows_of row ieis form_of form row_at first_iei value_in present source_of octets_at fits encoded element_at content bit receivable
meets zero h p = record { fit = refl; least = omega arith; greatest = omega arith; kind = refl }
meets (suc k) h p = absurd (omega (arith, single))

wrote : writing one rows [] (record { buffer = 0xaa ∷ []; used = 1 }) (unused []) (unused []) written-part ≡ gives written-part written-part
unfolding concat refusal bit receivable among run number number_at row_of rows_f rows_of ieis form_of form good_iei all_good fresh good_row first_bad_from first_bad iei_of place_from place_of row_at first_iei row table_p header length_by stated within whole unknown_form unknown_length lacking missing required iei_at including meet taken_by taken judged octets_of known stranger stranger_step place_step step before step_then parted_f parted elements_of is_accepted is_at cut_of plain_at over is_none content too_long or_empty order_list order_list_f kept_list kept_list_f value_in present source_of octets_at good_value first_from bad_rows apart apart_at unlike iei_for fits unfit_at values_too_long encoded element_at logged added_from firsts walked written unfit octets_in octets_for writing_checks writing gives
wrote = refl

pub written-example : checking one start_of written-part ≡ answer 0 []
unfolding content
written-example = writer-accepted one rows [] (record { buffer = 0xaa ∷ []; used = 1 }) (unused []) (unused []) written-part written-part start_of refl refl meets wrote (omega arith)

-- ---- two tables that differ in the greatest length alone

pub ignored-example : reading one start_of false part lent ≡ reading (row 0x10 2 0 3 65538 255) start_of false part lent
unfolding bare concat refusal bit receivable among run number number_at row_of rows_f rows_of ieis form_of form good_iei all_good fresh good_row first_bad_from first_bad iei_of place_from place_of row_at first_iei row table_p header length_by stated within whole unknown_form unknown_length lacking missing required iei_at including meet taken_by taken judged octets_of known stranger stranger_step place_step step before step_then parted_f parted elements_of is_accepted is_at cut_of plain_at over
ignored-example = greatest-ignored one (row 0x10 2 0 3 65538 255) start_of false part lent refl refl
