-- Document 01's examples under table P, given by the definitions. Each list is one statement, and each statement is by computation:
-- both sides compute to the same lists.
use Prim.Native.Nat.{ℕ}
use mathlib.Core.Path.{◌≡◌, refl}
use mathlib.Core.List.{List, [], ◌∷◌, ◌++◌, map}
use mathlib.Core.Bool.{Bool, true, false}
use mathlib.Core.Option.{none, some}
use lib.ListN.{replicate, get_or, length}
use Rattle.definitions.specs.Basic.{Answer, answer, Used, is_none, among, concat, refusal, over, over_at, content, too_long, bit, receivable}
use Rattle.definitions.specs.Octets.{run, number, number_at}
use Rattle.definitions.specs.Rows.{row_of, rows_f, rows_of, ieis, form_of, form, good_iei, all_good, fresh, good_row, first_bad_from, first_bad, iei_of, place_from, place_of, row_at, first_iei}
use Rattle.definitions.specs.Tables.{row, plain, table_p, start_of}
use Rattle.definitions.specs.Length.{header, length_by, stated, within, whole, unknown_form, unknown_length, lacking, missing, required}
use Rattle.definitions.specs.Elements.{iei_at, including, meet, taken_by, taken, judged, octets_of, known, stranger, stranger_step, place_step, step, before, step_then, parted_f, parted, elements_of, is_accepted, is_at}
use Rattle.definitions.specs.Mandatory.{mandatory_rows_f, mandatory_rows_of, mandatory_form_of, mandatory_form, is_half, next_is, good_mandatory, first_bad_mandatory_from, first_bad_mandatory, found_by, fault_of, stopped, noted, rowed, mandatory_reading}
use Rattle.definitions.specs.Logs.{leb_f, leb128, kept_entry, kept_of, continued, count_f, allowed, count_at, put, kept_then, kept_list_f, kept_list, or_empty, placed_of, order_entry, entries_of, plain_from, order_of, order_list_f, order_list, iei_for, plain_at}
use Rattle.definitions.specs.Reading.{Read, received, place_row, place_rows_from, place_rows, cut_of, reading_checks, read_elements, reading}
use Rattle.definitions.specs.Values.{Edited, value_in, present, source_of, octets_at, good_value, first_from, bad_rows, unlike, apart_at, apart, fits, unfit_at, values_too_long, room_checks, bad_place, setting}
use Rattle.definitions.specs.Checking.{offender, checking_checks, checking}
use Rattle.definitions.specs.Writing.{Wrote, encoded, element_at, logged, added_from, below, not_below, firsts, walked, written, unfit, octets_in, octets_for, writing_checks, writing}
use Rattle.definitions.specs.Listing.{ascii, decimal_f, decimal, hex_digit, hex, word, heading, line, lines, listed, listing_by, listing}

-- ---- reading

-- a part and the option; what reading it leaves: number and values, and the octets used of the order log and the kept log
pub record Example : Type 0 where
  pub part : List ℕ
  pub option : Bool
  pub said : Answer
  pub order : List ℕ
  pub kept : List ℕ

abbrev example : List ℕ → Bool → Answer → List ℕ → List ℕ → Example
example part option said order kept = record { part = part; option = option; said = said; order = order; kept = kept }

-- the starred lines, in their order
unfoldable pub starred : List Example
starred =
    example ([]) false (answer 0 (0 ∷ 0 ∷ [])) ([]) ([])
    ∷ example (0xc1 ∷ 0x10 ∷ 0x01 ∷ 0xaa ∷ []) false (answer 0 (0 ∷ 0 ∷ [])) ([]) ([])
    ∷ example (0x10 ∷ 0x00 ∷ 0x10 ∷ 0x01 ∷ 0xaa ∷ []) false (answer 0 (7 ∷ 2 ∷ [])) (0x02 ∷ 0x03 ∷ []) (0x02 ∷ 0x10 ∷ 0x00 ∷ 0x03 ∷ 0x10 ∷ 0x01 ∷ 0xaa ∷ [])
    ∷ example (0x31 ∷ 0x01 ∷ 0x02 ∷ []) false (answer 0 (0 ∷ 2 ∷ [])) (0x00 ∷ 0x31 ∷ []) ([])
    ∷ example (0x52 ∷ 0x07 ∷ 0x08 ∷ 0xc1 ∷ []) false (answer 0 (2 ∷ 3 ∷ [])) (0x00 ∷ 0x52 ∷ 0x04 ∷ []) (0x01 ∷ 0xc1 ∷ [])
    ∷ example (0x52 ∷ 0x07 ∷ 0x08 ∷ 0xc1 ∷ []) true (answer 0 (0 ∷ 4 ∷ [])) (0x00 ∷ 0x52 ∷ 0x00 ∷ 0xc0 ∷ []) ([])
    ∷ example (0x52 ∷ 0x07 ∷ 0x08 ∷ 0xc3 ∷ []) true (answer 0 (2 ∷ 3 ∷ [])) (0x00 ∷ 0x52 ∷ 0x04 ∷ []) (0x01 ∷ 0xc3 ∷ [])
    ∷ example (0xc1 ∷ 0x90 ∷ 0x10 ∷ 0x01 ∷ 0xaa ∷ []) false (answer 0 (2 ∷ 5 ∷ [])) (0x00 ∷ 0xc0 ∷ 0x01 ∷ 0x00 ∷ 0x10 ∷ []) (0x01 ∷ 0x90 ∷ [])
    ∷ example (0x77 ∷ 0x00 ∷ 0x05 ∷ 0xaa ∷ 0xc1 ∷ []) false (answer 0 (6 ∷ 1 ∷ [])) (0x02 ∷ []) (0x05 ∷ 0x77 ∷ 0x00 ∷ 0x05 ∷ 0xaa ∷ 0xc1 ∷ [])
    ∷ example (0x05 ∷ 0x02 ∷ 0xaa ∷ []) false (answer 1 (0 ∷ 5 ∷ 3 ∷ 1 ∷ [])) ([]) ([])
    ∷ example (0x7e ∷ 0x00 ∷ []) false (answer 1 (0 ∷ 126 ∷ 2 ∷ 1 ∷ [])) ([]) ([])
    ∷ []

-- beyond document 01: an unknown element of one octet is kept as it came, with its low four bits; the three unstarred ones
unfoldable pub unstarred : List Example
unstarred =
    example (0x95 ∷ []) false (answer 0 (2 ∷ 1 ∷ [])) (0x01 ∷ []) (0x01 ∷ 0x95 ∷ [])
    ∷ example (0x6f ∷ 0x00 ∷ []) false (answer 0 (3 ∷ 1 ∷ [])) (0x01 ∷ []) (0x02 ∷ 0x6f ∷ 0x00 ∷ [])
    ∷ example (0x70 ∷ 0x00 ∷ 0x00 ∷ []) false (answer 0 (4 ∷ 1 ∷ [])) (0x01 ∷ []) (0x03 ∷ 0x70 ∷ 0x00 ∷ 0x00 ∷ [])
    ∷ example (0x05 ∷ 0x01 ∷ 0xaa ∷ []) false (answer 0 (4 ∷ 1 ∷ [])) (0x01 ∷ []) (0x03 ∷ 0x05 ∷ 0x01 ∷ 0xaa ∷ [])
    ∷ []

-- what is lent: twenty numbers for the five places, and two logs of sixteen octets, of some content
abbrev lent_rows : List ℕ
lent_rows = replicate 20 9

abbrev lent_log : List ℕ
lent_log = replicate 16 9

-- what the definitions say, and what the example says: the answer and both lent logs
pub read : Example → List (List ℕ)
read e =
    let r : Read = reading table_p start_of e.option e.part (record { rows = lent_rows; kept = lent_log; order = lent_log }) in
    (r.said.number ∷ []) ∷ r.said.values ∷ r.order ∷ r.kept ∷ []

pub leaves : Example → List (List ℕ)
leaves e = (e.said.number ∷ []) ∷ e.said.values ∷ over e.order lent_log ∷ over e.kept lent_log ∷ []

pub starred-hold : map read starred ≡ map leaves starred
unfolding starred read leaves concat refusal over bit receivable among run number number_at row_of rows_f rows_of ieis form_of form good_iei all_good fresh good_row first_bad_from first_bad iei_of place_from place_of row_at first_iei row table_p header length_by stated within whole unknown_form unknown_length lacking missing required iei_at including meet taken_by taken judged octets_of known stranger stranger_step place_step step before step_then parted_f parted elements_of is_accepted is_at received place_row place_rows_from place_rows cut_of reading_checks read_elements reading leb_f leb128 kept_entry kept_of placed_of order_entry entries_of plain_from order_of order_list_f order_list put or_empty iei_for plain_at
starred-hold = refl

pub unstarred-hold : map read unstarred ≡ map leaves unstarred
unfolding unstarred read leaves concat refusal over bit receivable among run number number_at row_of rows_f rows_of ieis form_of form good_iei all_good fresh good_row first_bad_from first_bad iei_of place_from place_of row_at first_iei row table_p header length_by stated within whole unknown_form unknown_length lacking missing required iei_at including meet taken_by taken judged octets_of known stranger stranger_step place_step step before step_then parted_f parted elements_of is_accepted is_at received place_row place_rows_from place_rows cut_of reading_checks read_elements reading leb_f leb128 kept_entry kept_of placed_of order_entry entries_of plain_from order_of order_list_f order_list put or_empty iei_for plain_at
unstarred-hold = refl

-- ---- what is missing

-- the octets from an unknown element's first octet on, and how many are missing, start number 0x78: of no octet; of one length octet;
-- of two. A length field that is cut gives a least number: 7e 01 lacks 1, and its value 256 octets or more
unfoldable pub lacks : List (List ℕ)
lacks =
    []
    ∷ (0x05 ∷ []) ∷ (0x05 ∷ 0x02 ∷ 0xaa ∷ []) ∷ (0x05 ∷ 0xff ∷ [])
    ∷ (0x7e ∷ []) ∷ (0x7e ∷ 0x00 ∷ []) ∷ (0x7e ∷ 0x01 ∷ []) ∷ (0x7e ∷ 0xff ∷ 0xff ∷ []) ∷ (0x7e ∷ 0x00 ∷ 0x02 ∷ 0xaa ∷ [])
    ∷ []

pub lacks-hold : map (missing 0x78) lacks ≡ 1 ∷ 1 ∷ 1 ∷ 255 ∷ 2 ∷ 1 ∷ 1 ∷ 65535 ∷ 1 ∷ []
unfolding lacks run number number_at header length_by stated unknown_form lacking missing
lacks-hold = refl

-- ---- half octets have four bits

-- the set 7 of place 0 has the values 0, 1 and 2, so that c2 is accepted and c9 malformed; that of place 3 still has each value
-- whose low three bits are 0, 1 or 2
unfoldable pub halves : List Example
halves =
    example (0xc2 ∷ []) false (answer 0 (0 ∷ 0 ∷ [])) ([]) ([])
    ∷ example (0xc9 ∷ []) false (answer 0 (2 ∷ 1 ∷ [])) (0x02 ∷ []) (0x01 ∷ 0xc9 ∷ [])
    ∷ example (0x2f ∷ 0x01 ∷ 0x0a ∷ []) false (answer 0 (0 ∷ 0 ∷ [])) ([]) ([])
    ∷ []

pub halves-hold : map read halves ≡ map leaves halves
unfolding halves read leaves concat refusal over bit receivable among run number number_at row_of rows_f rows_of ieis form_of form good_iei all_good fresh good_row first_bad_from first_bad iei_of place_from place_of row_at first_iei row table_p header length_by stated within whole unknown_form unknown_length lacking missing required iei_at including meet taken_by taken judged octets_of known stranger stranger_step place_step step before step_then parted_f parted elements_of is_accepted is_at received place_row place_rows_from place_rows cut_of reading_checks read_elements reading leb_f leb128 kept_entry kept_of placed_of order_entry entries_of plain_from order_of order_list_f order_list put or_empty iei_for plain_at
halves-hold = refl

-- a low half of any value and a high half of 0 to 11: 1c is read, and of c1 the high half is refused with 9
abbrev pair : List ℕ
pair = plain 0 0 0 65535 ++ plain 1 0 0 4095

pub high-halves-hold : map (λ x. (mandatory_reading pair false (x ∷ []) (replicate 6 9)).said) (0x1c ∷ 0xc1 ∷ [])
    ≡ answer 0 (1 ∷ []) ∷ answer 9 (1 ∷ []) ∷ []
unfolding plain refusal over bit receivable mandatory_rows_f mandatory_rows_of mandatory_form_of mandatory_form is_half next_is good_mandatory first_bad_mandatory_from first_bad_mandatory found_by fault_of stopped noted rowed mandatory_reading
high-halves-hold = refl

-- the greatest sets: a half octet's 65,535, any other form's 255
pub greatest-hold : map (λ r. first_bad (rows_of r)) (row 0xc0 0 0 1 1 65535 ∷ row 0xc0 0 0 1 1 65536 ∷ row 0x10 2 0 3 257 255 ∷ row 0x10 2 0 3 257 256 ∷ [])
    ≡ none ∷ some 0 ∷ none ∷ some 0 ∷ []
unfolding row among row_of rows_f rows_of ieis good_iei all_good fresh good_row first_bad_from first_bad
greatest-hold = refl

pub greatest-mandatory-hold : map (λ (r : List ℕ). first_bad_mandatory (mandatory_rows_of r))
    (pair ∷ (plain 0 0 0 1 ++ plain 1 0 0 65536) ∷ plain 3 0 0 255 ∷ plain 3 0 0 256 ∷ [])
    ≡ none ∷ some 1 ∷ none ∷ some 0 ∷ []
unfolding plain mandatory_rows_f mandatory_rows_of is_half next_is good_mandatory first_bad_mandatory_from first_bad_mandatory
greatest-mandatory-hold = refl

-- ---- a supplier's part

-- the least length is at most the greatest, which is at most 65,538, of a half octet too; an unfinished row has no set
pub longest-hold : map (λ (r : List ℕ). first_bad (rows_of r))
    (row 0x10 2 0 3 3 255 ∷ row 0x10 2 0 3 2 255 ∷ row 0xc0 0 0 0 65538 7 ∷ row 0xc0 0 0 0 65539 7 ∷ (1 ∷ 0x39 ∷ 0 ∷ 0 ∷ 0 ∷ 1 ∷ 2 ∷ 0 ∷ 255 ∷ []) ∷ [])
    ≡ none ∷ some 0 ∷ none ∷ some 0 ∷ some 0 ∷ []
unfolding row among row_of rows_f rows_of ieis good_iei all_good fresh good_row first_bad_from first_bad
longest-hold = refl

-- under table P: nothing at all, and three elements in order, are accepted; then an unknown element, a malformed one, one that comes
-- again, one out of sequence and an alias; last a cut behind an offender, which is refused with 1
pub checks-hold : map (checking table_p start_of)
    ([]
    ∷ (0xc1 ∷ 0x10 ∷ 0x01 ∷ 0xaa ∷ 0x77 ∷ 0x00 ∷ 0x00 ∷ [])
    ∷ (0xc1 ∷ 0x90 ∷ 0x10 ∷ 0x01 ∷ 0xaa ∷ [])
    ∷ (0xc9 ∷ [])
    ∷ (0xc1 ∷ 0xc1 ∷ [])
    ∷ (0x52 ∷ 0x07 ∷ 0x08 ∷ 0xc1 ∷ [])
    ∷ (0x31 ∷ 0x01 ∷ 0x02 ∷ [])
    ∷ (0x90 ∷ 0x05 ∷ 0x02 ∷ 0xaa ∷ [])
    ∷ [])
    ≡ answer 0 [] ∷ answer 0 [] ∷ answer 29 (1 ∷ []) ∷ answer 29 (0 ∷ []) ∷ answer 29 (1 ∷ []) ∷ answer 29 (3 ∷ []) ∷ answer 29 (0 ∷ [])
    ∷ answer 1 (1 ∷ 5 ∷ 3 ∷ 1 ∷ []) ∷ []
unfolding concat refusal bit receivable among run number number_at row_of rows_f rows_of ieis form_of form good_iei all_good fresh good_row first_bad_from first_bad iei_of place_from place_of row_at first_iei row table_p header length_by stated within whole unknown_form unknown_length lacking missing required iei_at including meet taken_by taken judged octets_of known stranger stranger_step place_step step before step_then parted_f parted elements_of is_accepted is_at cut_of plain_at offender checking_checks checking
checks-hold = refl

-- the greatest length is of the whole element: 3 for a TLV with a value of one octet, and one more octet is too long
pub whole-hold : map (checking (row 0x10 2 0 0 3 255) start_of) ((0x10 ∷ 0x01 ∷ 0xaa ∷ []) ∷ (0x10 ∷ 0x02 ∷ 0xaa ∷ 0xbb ∷ []) ∷ [])
    ≡ answer 0 [] ∷ answer 29 (0 ∷ []) ∷ []
unfolding concat refusal bit receivable among run number number_at row_of rows_f rows_of ieis form_of form good_iei all_good fresh good_row first_bad_from first_bad iei_of place_from place_of row_at first_iei row header length_by stated within whole unknown_form unknown_length lacking missing required iei_at including meet taken_by taken judged octets_of known stranger stranger_step place_step step before step_then parted_f parted elements_of is_accepted is_at cut_of plain_at offender checking_checks checking
whole-hold = refl

-- ---- writing

-- a part, a place, its new value, and what is then written
pub record Edit : Type 0 where
  pub part : List ℕ
  pub place : ℕ
  pub new : List ℕ
  pub written' : List ℕ

abbrev edit : List ℕ → ℕ → List ℕ → List ℕ → Edit
edit part place new out = record { part = part; place = place; new = new; written' = out }

unfoldable pub edits : List Edit
edits =
    edit (0x10 ∷ 0x01 ∷ 0xaa ∷ 0x77 ∷ 0x00 ∷ 0x00 ∷ []) 3 (0x02 ∷ []) (0x10 ∷ 0x01 ∷ 0xaa ∷ 0x2f ∷ 0x01 ∷ 0x02 ∷ 0x77 ∷ 0x00 ∷ 0x00 ∷ [])
    ∷ edit (0x31 ∷ 0x01 ∷ 0x02 ∷ []) 3 (0x01 ∷ []) (0x31 ∷ 0x01 ∷ 0x01 ∷ [])
    ∷ []

abbrev lent_output : List ℕ
lent_output = replicate 12 7

-- the part is read, the value set, the message written
pub wrote : Edit → List (List ℕ)
wrote e =
    let r : Read = reading table_p start_of false e.part (record { rows = lent_rows; kept = lent_log; order = lent_log }) in
    let s : Edited = setting table_p r.rows e.part (record { buffer = lent_log; used = 0 }) (record { buffer = r.order; used = get_or r.said.values 1 0 }) e.place e.new in
    let w : Wrote =
    writing table_p s.rows e.part (record { buffer = s.set; used = get_or s.said.values 0 0 })
    (record { buffer = r.order; used = get_or r.said.values 1 0 }) (record { buffer = r.kept; used = get_or r.said.values 0 0 }) lent_output in
    (w.said.number ∷ []) ∷ w.said.values ∷ w.output ∷ []

pub writes : Edit → List (List ℕ)
writes e = (0 ∷ []) ∷ (length e.written' ∷ []) ∷ over e.written' lent_output ∷ []

pub edits-hold : map wrote edits ≡ map writes edits
unfolding edits wrote writes is_none among concat refusal over over_at content too_long bit receivable run number number_at row_of rows_f rows_of ieis form_of form good_iei all_good fresh good_row first_bad_from first_bad iei_of place_from place_of row_at first_iei row table_p header length_by stated within whole unknown_form unknown_length lacking missing required iei_at including meet taken_by taken judged octets_of known stranger stranger_step place_step step before step_then parted_f parted elements_of is_accepted is_at received place_row place_rows_from place_rows cut_of reading_checks read_elements reading leb_f leb128 kept_entry kept_of continued count_f allowed count_at put kept_then kept_list_f kept_list or_empty placed_of order_entry entries_of plain_from order_of order_list_f order_list iei_for value_in present source_of octets_at good_value first_from bad_rows unlike apart_at apart fits unfit_at values_too_long room_checks bad_place setting encoded element_at logged added_from below not_below firsts walked written unfit octets_in octets_for writing_checks writing plain_at
edits-hold = refl

-- ---- the IEI in a place row

-- place rows under P in which place 3 has the numbers, and a log that is used to its end
abbrev third : List ℕ → List ℕ
third r = replicate 12 0 ++ (r ++ replicate 4 0)

abbrev used_up : List ℕ → Used
used_up s = record { buffer = s; used = length s }

-- reading 31 01 02 enters the IEI that came, reading 2f 01 02 the place's first
pub rows-hold : map (λ part. (reading table_p start_of false part (record { rows = lent_rows; kept = lent_log; order = lent_log })).rows)
    ((0x31 ∷ 0x01 ∷ 0x02 ∷ []) ∷ (0x2f ∷ 0x01 ∷ 0x02 ∷ []) ∷ [])
    ≡ third (1 ∷ 2 ∷ 1 ∷ 0x31 ∷ []) ∷ third (1 ∷ 2 ∷ 1 ∷ 0x2f ∷ []) ∷ []
unfolding is_none among concat refusal over over_at content too_long bit receivable run number number_at row_of rows_f rows_of ieis form_of form good_iei all_good fresh good_row first_bad_from first_bad iei_of place_from place_of row_at first_iei row table_p header length_by stated within whole unknown_form unknown_length lacking missing required iei_at including meet taken_by taken judged octets_of known stranger stranger_step place_step step before step_then parted_f parted elements_of is_accepted is_at received place_row place_rows_from place_rows cut_of reading_checks read_elements reading leb_f leb128 kept_entry kept_of continued count_f allowed count_at put kept_then kept_list_f kept_list or_empty placed_of order_entry entries_of plain_at plain_from order_of order_list_f order_list iei_for value_in present source_of octets_at good_value first_from bad_rows unlike apart_at apart fits unfit_at values_too_long room_checks bad_place setting encoded element_at logged added_from below not_below firsts walked written unfit octets_in octets_for writing_checks writing
rows-hold = refl

-- setting enters the earliest IEI that the log gives the place, which may be none: a set-aside element gives none, nor do other places
pub sets-hold : map (λ log. (setting table_p (third (replicate 4 0)) [] (record { buffer = 9 ∷ []; used = 0 }) (used_up log) 3 (0x02 ∷ [])).rows)
    ([] ∷ (0x00 ∷ 0x31 ∷ 0x00 ∷ 0x2f ∷ []) ∷ (0x02 ∷ 0x00 ∷ 0x10 ∷ []) ∷ [])
    ≡ third (2 ∷ 0 ∷ 1 ∷ 0x2f ∷ []) ∷ third (2 ∷ 0 ∷ 1 ∷ 0x31 ∷ []) ∷ third (2 ∷ 0 ∷ 1 ∷ 0x2f ∷ []) ∷ []
unfolding is_none among concat refusal over over_at content too_long bit receivable run number number_at row_of rows_f rows_of ieis form_of form good_iei all_good fresh good_row first_bad_from first_bad iei_of place_from place_of row_at first_iei row table_p header length_by stated within whole unknown_form unknown_length lacking missing required iei_at including meet taken_by taken judged octets_of known stranger stranger_step place_step step before step_then parted_f parted elements_of is_accepted is_at received place_row place_rows_from place_rows cut_of reading_checks read_elements reading leb_f leb128 kept_entry kept_of continued count_f allowed count_at put kept_then kept_list_f kept_list or_empty placed_of order_entry entries_of plain_at plain_from order_of order_list_f order_list iei_for value_in present source_of octets_at good_value first_from bad_rows unlike apart_at apart fits unfit_at values_too_long room_checks bad_place setting encoded element_at logged added_from below not_below firsts walked written unfit octets_in octets_for writing_checks writing
sets-hold = refl

-- a present row agrees with the log, and an absent one has no IEI: setting another place, and writing, say so
unfoldable pub judged_rows : List (List ℕ)
judged_rows = (1 ∷ 0 ∷ 0 ∷ 0x31 ∷ []) ∷ (1 ∷ 0 ∷ 0 ∷ 0x2f ∷ []) ∷ (0 ∷ 0 ∷ 0 ∷ 0x31 ∷ []) ∷ []

abbrev logged31 : Used
logged31 = used_up (0x00 ∷ 0x31 ∷ [])

pub setting-judges : map (λ r. (setting table_p (third r) [] (record { buffer = 9 ∷ []; used = 0 }) logged31 1 (0x02 ∷ [])).said) judged_rows
    ≡ answer 0 (1 ∷ []) ∷ answer 11 (3 ∷ []) ∷ answer 11 (3 ∷ []) ∷ []
unfolding judged_rows is_none among concat refusal over over_at content too_long bit receivable run number number_at row_of rows_f rows_of ieis form_of form good_iei all_good fresh good_row first_bad_from first_bad iei_of place_from place_of row_at first_iei row table_p header length_by stated within whole unknown_form unknown_length lacking missing required iei_at including meet taken_by taken judged octets_of known stranger stranger_step place_step step before step_then parted_f parted elements_of is_accepted is_at received place_row place_rows_from place_rows cut_of reading_checks read_elements reading leb_f leb128 kept_entry kept_of continued count_f allowed count_at put kept_then kept_list_f kept_list or_empty placed_of order_entry entries_of plain_at plain_from order_of order_list_f order_list iei_for value_in present source_of octets_at good_value first_from bad_rows unlike apart_at apart fits unfit_at values_too_long room_checks bad_place setting encoded element_at logged added_from below not_below firsts walked written unfit octets_in octets_for writing_checks writing
setting-judges = refl

pub writing-judges : map (λ r. (writing table_p (third r) [] (used_up []) logged31 (used_up []) lent_output).said) judged_rows
    ≡ answer 0 (2 ∷ []) ∷ answer 11 (3 ∷ []) ∷ answer 11 (3 ∷ []) ∷ []
unfolding judged_rows is_none among concat refusal over over_at content too_long bit receivable run number number_at row_of rows_f rows_of ieis form_of form good_iei all_good fresh good_row first_bad_from first_bad iei_of place_from place_of row_at first_iei row table_p header length_by stated within whole unknown_form unknown_length lacking missing required iei_at including meet taken_by taken judged octets_of known stranger stranger_step place_step step before step_then parted_f parted elements_of is_accepted is_at received place_row place_rows_from place_rows cut_of reading_checks read_elements reading leb_f leb128 kept_entry kept_of continued count_f allowed count_at put kept_then kept_list_f kept_list or_empty placed_of order_entry entries_of plain_at plain_from order_of order_list_f order_list iei_for value_in present source_of octets_at good_value first_from bad_rows unlike apart_at apart fits unfit_at values_too_long room_checks bad_place setting encoded element_at logged added_from below not_below firsts walked written unfit octets_in octets_for writing_checks writing
writing-judges = refl

-- a malformed log comes before a malformed row
pub log-first : (setting table_p (third (3 ∷ 0 ∷ 0 ∷ 0 ∷ [])) [] (used_up []) (used_up (0x05 ∷ [])) 1 []).said ≡ answer 11 (1 ∷ [])
unfolding is_none among concat refusal over over_at content too_long bit receivable run number number_at row_of rows_f rows_of ieis form_of form good_iei all_good fresh good_row first_bad_from first_bad iei_of place_from place_of row_at first_iei row table_p header length_by stated within whole unknown_form unknown_length lacking missing required iei_at including meet taken_by taken judged octets_of known stranger stranger_step place_step step before step_then parted_f parted elements_of is_accepted is_at received place_row place_rows_from place_rows cut_of reading_checks read_elements reading leb_f leb128 kept_entry kept_of continued count_f allowed count_at put kept_then kept_list_f kept_list or_empty placed_of order_entry entries_of plain_at plain_from order_of order_list_f order_list iei_for value_in present source_of octets_at good_value first_from bad_rows unlike apart_at apart fits unfit_at values_too_long room_checks bad_place setting encoded element_at logged added_from below not_below firsts walked written unfit octets_in octets_for writing_checks writing
log-first = refl

-- the counts 127 and 128
pub counts-hold : map leb128 (127 ∷ 128 ∷ []) ≡ (0x7f ∷ []) ∷ (0x80 ∷ 0x01 ∷ []) ∷ []
unfolding leb128 leb_f
counts-hold = refl

-- ---- listing

-- what nas-list prints for c1 90 10 00 10 01 aa, and for 05 02 aa
pub listings-hold : map listing ((0xc1 ∷ 0x90 ∷ 0x10 ∷ 0x00 ∷ 0x10 ∷ 0x01 ∷ 0xaa ∷ []) ∷ (0x05 ∷ 0x02 ∷ 0xaa ∷ []) ∷ [])
    ≡ ascii "at len iei verdict\n0 1 c0 accepted\n1 1 90 unknown\n2 2 10 malformed\n4 3 10 repeated\nend 7\n"
    ∷ ascii "at len iei verdict\ncut at 0 iei 05 octets 3 missing 1\n"
    ∷ []
unfolding concat bit receivable among run number number_at row_of rows_f rows_of ieis form_of form good_iei all_good fresh good_row first_bad_from first_bad iei_of place_from place_of row_at first_iei row table_p header length_by stated within whole unknown_form unknown_length lacking missing required iei_at including meet taken_by taken judged octets_of known stranger stranger_step place_step step before step_then parted_f parted elements_of is_accepted is_at ascii decimal_f decimal hex_digit hex word heading line lines listed listing_by
listings-hold = refl
