-- Examples by computation, by table number: what nas-why prints for a registration request.
-- A part that is too long goes by its length alone.
use Prim.Native.Nat.{ℕ, ◌<◌}
use mathlib.Core.Path.{◌≡◌, refl}
use mathlib.Core.List.{List, [], ◌∷◌, map}
use mathlib.Core.Bool.{Bool, true, false}
use lib.ListN.{length}
use borrow.Author.Tests.{lt-ltb}
use Rattle.definitions.specs.Basic.{is_none, among, concat, bit, receivable}
use Rattle.definitions.specs.Octets.{run, number, number_at}
use Rattle.definitions.specs.Rows.{row_of, rows_f, rows_of, ieis, form_of, form, iei_of, place_from, place_of, row_at}
use Rattle.definitions.specs.Tables.{row, optional1, table_of}
use Rattle.definitions.specs.Length.{header, length_by, stated, within, whole, unknown_form, unknown_length, lacking, missing, required}
use Rattle.definitions.specs.Elements.{including, meet, taken_by, taken, judged, octets_of, known, stranger, stranger_step, place_step, step, before, step_then, parted_f, parted, is_at}
use Rattle.definitions.specs.Listing.{ascii, decimal_f, decimal, hex_digit, hex, word, listed}
use Rattle.definitions.specs.Why.{first_at, highest_of, fault_in, why_by, why, at_number, why_line, why_text}
use Rattle.grounds.specs.Grounds.{why_text_of}

-- three elements of a registration request, 10 behind 2e: out of sequence, and let in
abbrev pub swapped : List ℕ
swapped = 0x2e ∷ 0x02 ∷ 0xf0 ∷ 0xf0 ∷ 0x10 ∷ 0x01 ∷ 0x00 ∷ 0x2f ∷ 0x02 ∷ 0x01 ∷ 0x01 ∷ []

pub whys-hold : map (λ option. why_text_of 1 option swapped 1) (false ∷ true ∷ []) ≡ ascii "sequence 0\n" ∷ ascii "accepted\n" ∷ []
unfolding is_none concat bit receivable among run number number_at row_of rows_f rows_of ieis form_of form iei_of place_from place_of row_at row optional1 table_of header length_by stated within whole unknown_form unknown_length lacking missing required including meet taken_by taken judged octets_of known stranger stranger_step place_step step before step_then parted_f parted is_at ascii decimal_f decimal hex_digit hex word listed first_at highest_of fault_in why_by why at_number why_line why_text why_text_of
whys-hold = refl

-- over 4,096 octets, by the length alone
pub why-long : (n : ℕ) (option : Bool) (part : List ℕ) (at : ℕ) → 4096 < length part → why_text_of n option part at ≡ ascii "too long\n"
unfolding ascii why_text_of
why-long n option part at long = rw (lt-ltb 4096 (length part) long)
