-- "Mandatory rows": their check, reading them row by row, writing them one after the other.
-- A row is four numbers: the form's code, its size, the least whole length, the set of kinds.
use Rattle.std.specs.Prelude.{ℕ, zero, suc, ◌+◌, ◌*◌, ◌/◌, ◌%◌, List, [], ◌∷◌, ◌++◌, Bool, false, ◌&&◌, ◌||◌, not, length, get_or, take, drop, ltb, leb, eqb}
use Rattle.std.proofs.Math.Option.{Option, none, some}
use Rattle.definitions.specs.Basic.{pick, is_none, most_kinds, receivable, Answer, answer, refusal, refuse, refuse_at, unless, Used, content, most_octets, over}
use Rattle.definitions.specs.Octets.{number_at}
use Rattle.definitions.specs.Tables.{mandatory_table_of}
use Rattle.definitions.specs.Values.{Octets, Value, mandatory_width, value_in, present, octets_at, first_from, bad_rows, values_too_long}

pub data MandatoryForm : Type 0 where
  low_half : MandatoryForm
  high_half : MandatoryForm
  fixed_v : ℕ → MandatoryForm
  lv : MandatoryForm
  lv-e : MandatoryForm

pub record MandatoryRow : Type 0 where
  pub code : ℕ
  pub size : ℕ
  pub least : ℕ
  pub kinds : ℕ

-- the rows of a lent table; an unfinished row at the end lacks its set and fails the check. Each row takes a number or
-- more, so the numbers that are left are count enough
unfoldable pub mandatory_rows_f : ℕ → List ℕ → List MandatoryRow
mandatory_rows_f zero s = []
mandatory_rows_f (suc f) [] = []
mandatory_rows_f (suc f) (x ∷ xs) =
    record { code = x; size = get_or xs 0 0; least = get_or xs 1 0; kinds = get_or xs 2 0 } ∷ mandatory_rows_f f (drop 3 xs)

unfoldable pub mandatory_rows_of : List ℕ → List MandatoryRow
mandatory_rows_of s = mandatory_rows_f (length s) s

unfoldable pub mandatory_form_of : ℕ → ℕ → MandatoryForm
mandatory_form_of zero n = low_half
mandatory_form_of (suc zero) n = high_half
mandatory_form_of (suc (suc zero)) n = fixed_v n
mandatory_form_of (suc (suc (suc zero))) n = lv
mandatory_form_of (suc (suc (suc (suc c)))) n = lv-e

unfoldable pub mandatory_form : MandatoryRow → MandatoryForm
mandatory_form r = mandatory_form_of r.code r.size

-- ---- the table check

unfoldable pub is_half : MandatoryRow → Bool
is_half r = leb r.code 1

-- whether the next row has a code
unfoldable pub next_is : ℕ → List MandatoryRow → Bool
next_is c [] = false
next_is c (r ∷ rs) = eqb r.code c

-- a form, a fixed size of 1 to 255, a least whole length of 0 to 65,537 and of a half 0, a set of 1 to 255 and of a half 1 to
-- 65,535; halves in pairs: right behind each low one a high one, and no high one elsewhere
unfoldable pub good_mandatory : Bool → MandatoryRow → List MandatoryRow → Bool
good_mandatory after_low r rs =
    leb r.code 4 && ((not (eqb r.code 2) || (leb 1 r.size && leb r.size 255))
    && (leb r.least 65537 && ((not (is_half r) || eqb r.least 0)
    && (leb 1 r.kinds && (leb r.kinds (most_kinds (is_half r))
    && ((not (eqb r.code 0) || next_is 1 rs)
    && (not (eqb r.code 1) || after_low)))))))

abbrev pub most_mandatory : ℕ
most_mandatory = 32

unfoldable pub first_bad_mandatory_from : ℕ → Bool → List MandatoryRow → Option ℕ
first_bad_mandatory_from k after_low [] = none
first_bad_mandatory_from k after_low (r ∷ rs) =
    pick (ltb k most_mandatory && good_mandatory after_low r rs) (first_bad_mandatory_from (suc k) (eqb r.code 0) rs) (some k)

-- the first bad row; none where the table passes the check
unfoldable pub first_bad_mandatory : List MandatoryRow → Option ℕ
first_bad_mandatory t = first_bad_mandatory_from 0 false t

-- ---- reading, `decode_mandatory_ie`

-- what a row finds at the front of the octets left: no octet; one begun and cut; or a value: where it starts, counted from
-- here, its length, how many octets the row consumes, and the octets by which it is judged
pub data Found : Type 0 where
  missing : Found
  truncated : Found
  value : ℕ → ℕ → ℕ → List ℕ → Found

-- a value of n octets behind h octets
unfoldable pub behind : ℕ → ℕ → List ℕ → Found
behind h n s = pick (leb (h + n) (length s)) (value h n (h + n) (take n (drop h s))) truncated

-- a value behind a length field of w octets
unfoldable pub counted : ℕ → List ℕ → Option ℕ → Found
counted w s none = truncated
counted w s (some n) = behind w n s

-- the low half does not consume; each half's value is the whole octet, judged by its own four bits
unfoldable pub found_by : MandatoryForm → List ℕ → Found
found_by f [] = missing
found_by low_half (x ∷ xs) = value 0 1 0 ((x % 16) ∷ [])
found_by high_half (x ∷ xs) = value 0 1 1 ((x / 16) ∷ [])
found_by (fixed_v n) (x ∷ xs) = behind 0 n (x ∷ xs)
found_by lv (x ∷ xs) = counted 1 (x ∷ xs) (number_at 1 0 (x ∷ xs))
found_by lv-e (x ∷ xs) = counted 2 (x ∷ xs) (number_at 2 0 (x ∷ xs))

-- complete and under the least length: 8, TooShort; else not receivable: 9, Syntax
unfoldable pub fault_of : MandatoryRow → ℕ → List ℕ → Option ℕ
fault_of r took v = pick (ltb took r.least) (some 8) (pick (receivable (is_half r) r.kinds v) none (some 9))

-- the rows' outcome: the refusal if there is one, the octets read, the rows' numbers, the notes (row and number)
pub record Rowed : Type 0 where
  pub refused : Option Answer
  pub read : ℕ
  pub rows : List ℕ
  pub notes : List ℕ

-- stopped at row k by a number, with the notes so far
unfoldable pub stopped : ℕ → ℕ → ℕ → List ℕ → List ℕ → Rowed
stopped number k at rows notes = record { refused = some (answer number (k ∷ notes)); read = at; rows = rows; notes = notes }

-- row k with its fault, if it has one: lenient, the fault is noted and the value kept; strict, it refuses. kept goes on with
-- the notes by then
unfoldable pub noted : Bool → ℕ → Option ℕ → List ℕ → (List ℕ → Rowed) → (ℕ → Rowed) → Rowed
noted lenient k none notes kept refused = kept notes
noted lenient k (some fault) notes kept refused = pick lenient (kept (notes ++ (k ∷ fault ∷ []))) (refused fault)

-- row k and those behind it, at a position with the octets from there on, after the rows and notes before it
unfoldable pub rowed : Bool → ℕ → ℕ → List MandatoryRow → List ℕ → List ℕ → List ℕ → Rowed
rowed lenient k at [] s rows notes = record { refused = none; read = at; rows = rows; notes = notes }
rowed lenient k at (r ∷ rs) s rows notes =
    elim (found_by (mandatory_form r) s) [
      | missing ↦ stopped 6 k at rows notes
      | truncated ↦ stopped 7 k at rows notes
      | value h n took v ↦
          noted lenient k (fault_of r took v) notes (rowed lenient (suc k) (at + took) rs (drop took s) (rows ++ (1 ∷ (at + h) ∷ n ∷ [])))
          (λ fault. stopped fault k at rows notes)
    ]

-- the answer, and the lent rows afterwards
pub record RowsRead : Type 0 where
  pub said : Answer
  pub rows : List ℕ

-- checks 4, 3, 2 (1), then the rows; done returns the octets read and the notes
unfoldable pub mandatory_reading : List ℕ → Bool → List ℕ → List ℕ → RowsRead
mandatory_reading table lenient part rows =
    let t : List MandatoryRow = mandatory_rows_of table in
    let o : Rowed = rowed lenient 0 0 t part [] [] in
    unless
    (refusal
    (refuse_at 4 (first_bad_mandatory t)
    ∷ refuse (ltb most_octets (length part)) 3 []
    ∷ refuse (ltb (length rows) (mandatory_width * length t)) 2 (1 ∷ [])
    ∷ o.refused
    ∷ []))
    (λ a. record { said = a; rows = rows })
    (record { said = answer 0 (o.read ∷ o.notes); rows = over o.rows rows })

-- the same by table number: refusal 5, checked first, where there is none
unfoldable pub mandatory_reading_by : ℕ → Bool → List ℕ → List ℕ → RowsRead
mandatory_reading_by n lenient part rows =
    elim (mandatory_table_of n) [
      | none ↦ record { said = answer 5 []; rows = rows }
      | some table ↦ mandatory_reading table lenient part rows
    ]

-- ---- writing

-- the four bits of a half: a set octet has them alone; of a received one the low half has the low four, the high half the top
unfoldable pub low_bits : ℕ → ℕ
low_bits x = x % 16

unfoldable pub high_bits : ℕ → ℕ → ℕ
high_bits source x = pick (eqb source 1) (x / 16) (x % 16)

unfoldable pub fits_mandatory : MandatoryForm → ℕ → List ℕ → Bool
fits_mandatory low_half source s = eqb (length s) 1 && (eqb source 1 || leb (get_or s 0 0) 15)
fits_mandatory high_half source s = eqb (length s) 1 && (eqb source 1 || leb (get_or s 0 0) 15)
fits_mandatory (fixed_v n) source s = eqb (length s) n
fits_mandatory lv source s = leb (length s) 255
fits_mandatory lv-e source s = leb (length s) 65535

-- a row, written: a low half waits for its high half, which has it in its octet; low is the low half that waits
unfoldable pub encoded_row : MandatoryForm → ℕ → ℕ → List ℕ → List ℕ
encoded_row low_half low source s = []
encoded_row high_half low source s = (high_bits source (get_or s 0 0) * 16 + low) ∷ []
encoded_row (fixed_v n) low source s = s
encoded_row lv low source s = length s ∷ s
encoded_row lv-e low source s = (length s / 256) ∷ (length s % 256) ∷ s

-- row k and those behind it
unfoldable pub rows_written : Octets → List ℕ → ℕ → ℕ → List MandatoryRow → List ℕ
rows_written o rows k low [] = []
rows_written o rows k low (r ∷ rs) =
    let v : Value = value_in mandatory_width rows k in
    let s : List ℕ = octets_at o v in
    encoded_row (mandatory_form r) low v.source s ++ rows_written o rows (suc k) (low_bits (get_or s 0 0)) rs

unfoldable pub mandatory_row_at : List MandatoryRow → ℕ → MandatoryRow
mandatory_row_at [] k = record { code = 0; size = 0; least = 0; kinds = 0 }
mandatory_row_at (r ∷ rs) zero = r
mandatory_row_at (r ∷ rs) (suc k) = mandatory_row_at rs k

-- the answer, and the lent output afterwards
pub record RowsWrote : Type 0 where
  pub said : Answer
  pub output : List ℕ

-- checks 4, 3, 2 (1), 11 (3), also of an absent row, 10 with the lowest row, 12 with the output needed
unfoldable pub mandatory_writing : List ℕ → List ℕ → List ℕ → Used → List ℕ → RowsWrote
mandatory_writing table rows received set output =
    let t : List MandatoryRow = mandatory_rows_of table in
    let o : Octets = record { received = received; set = content set } in
    let absent : Option ℕ = first_from (λ k. not (present (value_in mandatory_width rows k))) 0 (length t) in
    let misfit : Option ℕ =
    first_from (λ k. not (fits_mandatory (mandatory_form (mandatory_row_at t k)) (value_in mandatory_width rows k).source (octets_at o (value_in mandatory_width rows k)))) 0 (length t) in
    let w : List ℕ = rows_written o rows 0 0 t in
    unless
    (refusal
    (refuse_at 4 (first_bad_mandatory t)
    ∷ refuse (values_too_long received set) 3 []
    ∷ refuse (ltb (length rows) (mandatory_width * length t)) 2 (1 ∷ [])
    ∷ refuse (bad_rows mandatory_width o rows (length t) || not (is_none absent)) 11 (3 ∷ [])
    ∷ refuse_at 10 misfit
    ∷ refuse (ltb (length output) (length w)) 12 (length w ∷ [])
    ∷ []))
    (λ a. record { said = a; output = output })
    (record { said = answer 0 (length w ∷ []); output = over w output })

-- the same by table number, with refusal 5 as reading has it
unfoldable pub mandatory_writing_by : ℕ → List ℕ → List ℕ → Used → List ℕ → RowsWrote
mandatory_writing_by n rows received set output =
    elim (mandatory_table_of n) [
      | none ↦ record { said = answer 5 []; output = output }
      | some table ↦ mandatory_writing table rows received set output
    ]
