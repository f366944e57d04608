-- Examples by computation, by table number: what nas-check prints under table P and for a registration request.
-- A part that is too long goes by its length alone.
use Prim.Native.Nat.{ℕ, ◌<◌}
use mathlib.Core.Path.{◌≡◌, refl}
use mathlib.Core.List.{List, [], ◌∷◌, map}
use lib.ListN.{length}
use borrow.Author.Tests.{lt-ltb}
use Rattle.definitions.specs.Basic.{among, concat, bit, receivable}
use Rattle.definitions.specs.Octets.{run, number, number_at}
use Rattle.definitions.specs.Rows.{row_of, rows_f, rows_of, ieis, form_of, form, iei_of, place_from, place_of, row_at, first_iei}
use Rattle.definitions.specs.Tables.{row, table_p, optional1, table_of}
use Rattle.definitions.specs.Length.{header, length_by, stated, within, whole, unknown_form, unknown_length, lacking, missing, required}
use Rattle.definitions.specs.Elements.{iei_at, including, meet, taken_by, taken, judged, octets_of, known, stranger, stranger_step, place_step, step, before, step_then, parted_f, parted, is_accepted, is_at}
use Rattle.definitions.specs.Logs.{plain_at}
use Rattle.definitions.specs.Checking.{offender}
use Rattle.definitions.specs.Listing.{ascii, decimal_f, decimal, hex_digit, hex, word, line, lines, listed}
use Rattle.verdicts.specs.Verdicts.{line_at, check_line, check_text}

-- elements of a registration request in table order; and three of them with 10 behind 2e
abbrev pub request : List ℕ
request =
    0xc1 ∷ 0x10 ∷ 0x01 ∷ 0x00 ∷ 0x2e ∷ 0x02 ∷ 0xf0 ∷ 0xf0 ∷ 0x2f ∷ 0x02 ∷ 0x01 ∷ 0x01 ∷ 0x52 ∷ 0x02 ∷ 0xf8 ∷ 0x39 ∷ 0x00 ∷ 0x00 ∷ 0x01
    ∷ 0xb1 ∷ 0x18 ∷ 0x01 ∷ 0x00 ∷ 0x71 ∷ 0x00 ∷ 0x03 ∷ 0x7e ∷ 0x00 ∷ 0x41 ∷ []

abbrev pub swapped : List ℕ
swapped = 0x2e ∷ 0x02 ∷ 0xf0 ∷ 0xf0 ∷ 0x10 ∷ 0x01 ∷ 0x00 ∷ 0x2f ∷ 0x02 ∷ 0x01 ∷ 0x01 ∷ []

-- under P: a good part; an unknown element, a malformed one, one that comes again; a cut behind an offender
pub checks-hold : map (check_text 0) ((0xc1 ∷ 0x10 ∷ 0x01 ∷ 0xaa ∷ []) ∷ (0xc1 ∷ 0x90 ∷ 0x10 ∷ 0x00 ∷ []) ∷ (0x10 ∷ 0x00 ∷ []) ∷ (0xc1 ∷ 0xc1 ∷ []) ∷ (0x90 ∷ 0x05 ∷ 0x02 ∷ 0xaa ∷ []) ∷ [])
    ≡ ascii "accepted\n"
    ∷ ascii "refused 29 at 1\n1 1 90 unknown\n"
    ∷ ascii "refused 29 at 0\n0 2 10 malformed\n"
    ∷ ascii "refused 29 at 1\n1 1 c0 repeated\n"
    ∷ ascii "cut at 1 iei 05 octets 3 missing 1\n"
    ∷ []
unfolding concat bit receivable among run number number_at row_of rows_f rows_of ieis form_of form iei_of place_from place_of row_at first_iei row table_p table_of header length_by stated within whole unknown_form unknown_length lacking missing required iei_at including meet taken_by taken judged octets_of known stranger stranger_step place_step step before step_then parted_f parted is_accepted is_at plain_at offender ascii decimal_f decimal hex_digit hex word line lines listed line_at check_line check_text
checks-hold = refl

-- a registration request: accepted; an element out of sequence; one that is accepted, and longer than its row allows
pub requests-hold : map (check_text 1) (request ∷ swapped ∷ (0x18 ∷ 0x02 ∷ 0x00 ∷ 0x00 ∷ []) ∷ [])
    ≡ ascii "accepted\n" ∷ ascii "refused 29 at 4\n4 3 10 sequence\n" ∷ ascii "refused 29 at 0\n0 4 18 accepted\n" ∷ []
unfolding concat bit receivable among run number number_at row_of rows_f rows_of ieis form_of form iei_of place_from place_of row_at first_iei row optional1 table_of header length_by stated within whole unknown_form unknown_length lacking missing required iei_at including meet taken_by taken judged octets_of known stranger stranger_step place_step step before step_then parted_f parted is_accepted is_at plain_at offender ascii decimal_f decimal hex_digit hex word line lines listed line_at check_line check_text
requests-hold = refl

-- a number without a table has no text
pub none-hold : check_text 7 request ≡ []
unfolding table_of check_text
none-hold = refl

-- over 4,096 octets, by the length alone
pub check-long : (n : ℕ) (part : List ℕ) → 4096 < length part → check_text n part ≡ ascii "too long\n"
unfolding ascii check_text
check-long n part long = rw (lt-ltb 4096 (length part) long)
