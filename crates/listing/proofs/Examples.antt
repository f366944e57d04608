-- Examples by computation, by table number: what nas-list prints for a registration request.
-- The text of a whole part with the option off and on.
use Prim.Native.Nat.{ℕ}
use mathlib.Core.Path.{◌≡◌, refl}
use mathlib.Core.List.{List, [], ◌∷◌, map}
use mathlib.Core.Bool.{true, false}
use Rattle.definitions.specs.Basic.{among, concat, bit, receivable}
use Rattle.definitions.specs.Octets.{run, number, number_at}
use Rattle.definitions.specs.Rows.{row_of, rows_f, rows_of, ieis, form_of, form, iei_of, place_from, place_of, row_at}
use Rattle.definitions.specs.Tables.{row, optional1, table_of}
use Rattle.definitions.specs.Length.{header, length_by, stated, within, whole, unknown_form, unknown_length, lacking, missing, required}
use Rattle.definitions.specs.Elements.{iei_at, including, meet, taken_by, taken, judged, octets_of, known, stranger, stranger_step, place_step, step, before, step_then, parted_f, parted}
use Rattle.definitions.specs.Listing.{ascii, decimal_f, decimal, hex_digit, hex, word, heading, line, lines, listed, listing_by}
use Rattle.listing.specs.Parts.{listing_of}

-- three elements of a registration request, 10 behind 2e: out of sequence, and let in
abbrev pub swapped : List ℕ
swapped = 0x2e ∷ 0x02 ∷ 0xf0 ∷ 0xf0 ∷ 0x10 ∷ 0x01 ∷ 0x00 ∷ 0x2f ∷ 0x02 ∷ 0x01 ∷ 0x01 ∷ []

pub listings-hold : map (λ option. listing_of 1 option swapped) (false ∷ true ∷ [])
    ≡ ascii "at len iei verdict\n0 4 2e accepted\n4 3 10 sequence\n7 4 2f accepted\nend 11\n"
    ∷ ascii "at len iei verdict\n0 4 2e accepted\n4 3 10 accepted\n7 4 2f accepted\nend 11\n"
    ∷ []
unfolding concat bit receivable among run number number_at row_of rows_f rows_of ieis form_of form iei_of place_from place_of row_at row optional1 table_of header length_by stated within whole unknown_form unknown_length lacking missing required iei_at including meet taken_by taken judged octets_of known stranger stranger_step place_step step before step_then parted_f parted ascii decimal_f decimal hex_digit hex word heading line lines listed listing_by listing_of
listings-hold = refl
