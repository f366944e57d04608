-- Strangers at work under table P: one that asks to be understood, put between two elements, with all that is promised of it; and what
-- may not be put in, or not there. Each example computes.
use Prim.Native.Nat.{ℕ}
use native.Mathlib.Omega.{arith}
use mathlib.Core.Path.{◌≡◌, refl}
use mathlib.Core.List.{List, [], ◌∷◌, ◌++◌}
use mathlib.Core.Bool.{Bool, true, false}
use mathlib.Core.Option.{none, some}
use lib.ListN.{replicate}
use Rattle.definitions.specs.Basic.{among, concat, bit, receivable}
use Rattle.definitions.specs.Octets.{run, number, number_at}
use Rattle.definitions.specs.Rows.{row_of, rows_f, rows_of, ieis, form_of, form, good_iei, all_good, fresh, good_row, first_bad_from, first_bad, iei_of, place_from, place_of, row_at}
use Rattle.definitions.specs.Tables.{row, table_p, start_of}
use Rattle.definitions.specs.Length.{header, length_by, stated, within, whole, unknown_form, unknown_length, required}
use Rattle.definitions.specs.Elements.{accepted, unknown, malformed, repeated, Element, elements, including, meet, taken_by, taken, judged, octets_of, known, stranger, stranger_step, place_step, step, before, step_then, parted_f, parted}
use Rattle.definitions.specs.Reading.{Lent}
use Rattle.promises.specs.Joined.{joined}
use Rattle.promises.specs.Condition3.{framed_by}
use Rattle.promises.specs.Matched.{Matched}
use Rattle.promises.specs.Strangers.{Strange, Slot, longer, later, with_stranger}
use Rattle.promises.proofs.Rows.{element}
use Rattle.promises.proofs.Examples.{are-octets}
use Rattle.promises.proofs.Strangers.{strangers}

-- c1, then 10 01 aa and c2, which is a repeat; the stranger is 05 01 bb
abbrev front : List Element
front = element 0 (0xc1 ∷ []) (some 0) accepted ∷ []

abbrev behind : List Element
behind = element 1 (0x10 ∷ 0x01 ∷ 0xaa ∷ []) (some 1) accepted ∷ element 4 (0xc2 ∷ []) (some 0) repeated ∷ []

abbrev part : List ℕ
part = 0xc1 ∷ 0x10 ∷ 0x01 ∷ 0xaa ∷ 0xc2 ∷ []

abbrev put : List ℕ
put = 0x05 ∷ 0x01 ∷ 0xbb ∷ []

abbrev lent : Lent
lent = record { rows = replicate 20 9; kept = replicate 16 9; order = replicate 16 9 }

-- with the option off and on
pub decodes-part : (option : Bool) → parted (rows_of table_p) start_of option part ≡ elements (front ++ behind)
unfolding concat bit receivable among run number number_at row_of rows_f rows_of ieis form_of form iei_of place_from place_of row_at row table_p header length_by stated within whole unknown_form unknown_length required including meet taken_by taken judged octets_of known stranger stranger_step place_step step before step_then parted_f parted
decodes-part false = refl
decodes-part true = refl

pub among-example : (option : Bool) → Matched table_p start_of option (longer front put part) lent (replicate 4 7) (replicate 9 7) (λ es. es ≡ with_stranger front put behind)
unfolding concat among run number number_at row_of rows_f rows_of ieis form_of form good_iei all_good fresh good_row first_bad_from first_bad iei_of place_from place_of row table_p length_by stated within whole unknown_form unknown_length joined longer Slot
among-example option =
    strangers table_p start_of option part put front behind lent (replicate 4 7) (replicate 9 7) (decodes-part option) (record { complete = refl; no_place = refl }) tt
    (record { passes = refl; short = omega arith }) (are-octets (longer front put part) refl) (record { rows = omega arith; kept = omega arith; order = omega arith }) (omega arith)

-- the elements that it promises: the stranger is unknown at 1, those behind stand three octets later
pub among-elements : (option : Bool) → (among-example option).elements'
    ≡ element 0 (0xc1 ∷ []) (some 0) accepted
    ∷ element 1 (0x05 ∷ 0x01 ∷ 0xbb ∷ []) none unknown
    ∷ element 4 (0x10 ∷ 0x01 ∷ 0xaa ∷ []) (some 1) accepted
    ∷ element 7 (0xc2 ∷ []) (some 0) repeated
    ∷ []
unfolding with_stranger joined stranger later
among-elements option = (among-example option).each

-- ---- what may not be put in

-- c5, whose IEI c0 has a place: it would make c1 a repeat
pub with-a-place : Strange (rows_of table_p) start_of (0xc5 ∷ []) → ⊥
unfolding concat among row_of rows_f rows_of ieis iei_of place_from place_of row table_p
with-a-place d = let p = d.no_place in let z : ◌≡◌ {A = ℕ} 0 1 = cc in omega arith

-- 05 02 aa, which is cut short
pub cut-stranger : Strange (rows_of table_p) start_of (0x05 ∷ 0x02 ∷ 0xaa ∷ []) → ⊥
unfolding run number number_at length_by stated within whole unknown_form unknown_length
cut-stranger d = let p = d.complete in let z : ◌≡◌ {A = ℕ} 0 1 = cc in omega arith

-- 05 00 06 00, which are two elements
pub two-strangers : Strange (rows_of table_p) start_of (0x05 ∷ 0x00 ∷ 0x06 ∷ 0x00 ∷ []) → ⊥
unfolding run number number_at length_by stated within whole unknown_form unknown_length
two-strangers d = let p = d.complete in let z : ◌≡◌ {A = ℕ} 2 4 = cc in omega arith

-- ---- where none may be put

-- behind 77 00 05 aa, which is cut short; in front of it one may
abbrev cut : Element
cut = element 0 (0x77 ∷ 0x00 ∷ 0x05 ∷ 0xaa ∷ []) (some 4) malformed

pub behind-a-cut : Slot (rows_of table_p) start_of (cut ∷ []) [] → ⊥
unfolding Slot framed_by concat run number number_at row_of rows_f rows_of form_of form row_at row table_p length_by stated within whole
behind-a-cut c = let z : ◌≡◌ {A = ℕ} 0 1 = cc in omega arith

pub before-a-cut : Slot (rows_of table_p) start_of [] (cut ∷ [])
unfolding Slot
before-a-cut = tt

-- into an empty part one may
pub alone : Slot (rows_of table_p) start_of [] []
unfolding Slot
alone = tt
