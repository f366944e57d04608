-- "Rows of a table": the rows of a table of optional elements as they are lent, the table check, the place of an IEI.
-- A row is ten numbers: how many IEIs, four of them, the form's code, its size, the least and the greatest whole length, the set of
-- kinds. Receiving does not look at the greatest length (document 02, item 8).
use Rattle.std.specs.Prelude.{ℕ, zero, suc, ◌*◌, ◌/◌, ◌%◌, min, List, [], ◌∷◌, ◌++◌, Bool, true, false, ◌&&◌, ◌||◌, not, length, get_or, take, drop, ltb, leb, eqb}
use Rattle.std.proofs.Math.Option
use Rattle.std.proofs.Math.Option.{Option, none, some}
use Rattle.definitions.specs.Basic.{pick, among, most_kinds}

-- half octet; fixed n, so many value octets after the IEI; TLV, one length octet; TLV-E, two of them
pub data Form : Type 0 where
  half : Form
  fixed : ℕ → Form
  tlv : Form
  tlv-e : Form

pub record Row : Type 0 where
  pub count : ℕ
  pub slots : List ℕ
  pub code : ℕ
  pub size : ℕ
  pub least : ℕ
  pub greatest : ℕ
  pub kinds : ℕ

-- how many numbers a row has
abbrev pub width : ℕ
width = 10

-- the row that the first ten numbers are; a number that is not there counts as 0
unfoldable pub row_of : List ℕ → Row
row_of s = record { count = get_or s 0 0; slots = take 4 (drop 1 s); code = get_or s 5 0; size = get_or s 6 0; least = get_or s 7 0; greatest = get_or s 8 0; kinds = get_or s 9 0 }

-- the rows of a lent table. An unfinished row at the end is a row too: it lacks its set, so it fails the check.
-- Each row takes a number or more, so the numbers that are left are count enough
unfoldable pub rows_f : ℕ → List ℕ → List Row
rows_f zero s = []
rows_f (suc f) [] = []
rows_f (suc f) (x ∷ xs) = row_of (x ∷ xs) ∷ rows_f f (drop width (x ∷ xs))

unfoldable pub rows_of : List ℕ → List Row
rows_of s = rows_f (length s) s

-- the IEIs of a row; the first is the one for added elements
unfoldable pub ieis : Row → List ℕ
ieis r = take r.count r.slots

unfoldable pub form_of : ℕ → ℕ → Form
form_of zero n = half
form_of (suc zero) n = fixed n
form_of (suc (suc zero)) n = tlv
form_of (suc (suc (suc c))) n = tlv-e

unfoldable pub form : Row → Form
form r = form_of r.code r.size

-- whether the form is a half octet
abbrev pub of_half : Row → Bool
of_half r = eqb r.code 0

-- ---- the table check

-- an IEI that a row may list: an octet; from 0x80 up, with zero low four bits, exactly in a row of half octets
unfoldable pub good_iei : Bool → ℕ → Bool
good_iei true x = leb 128 x && (leb x 255 && eqb (x % 16) 0)
good_iei false x = leb x 127

unfoldable pub all_good : Bool → List ℕ → Bool
all_good h [] = true
all_good h (x ∷ xs) = good_iei h x && all_good h xs

-- no number twice, and none of those used before
unfoldable pub fresh : List ℕ → List ℕ → Bool
fresh used [] = true
fresh used (x ∷ xs) = not (among x used) && fresh (x ∷ used) xs

-- 1 to 4 IEIs, a form, a fixed size of 0 to 255, a least whole length that is at most the greatest, which is at most 65,538, a set of
-- 1 to 65,535 for half octets and of 1 to 255 for others, the IEI rules
unfoldable pub good_row : List ℕ → Row → Bool
good_row used r =
    leb 1 r.count && (leb r.count 4
    && (leb r.code 3 && ((not (eqb r.code 1) || leb r.size 255)
    && (leb r.least r.greatest && (leb r.greatest 65538 && (leb 1 r.kinds && (leb r.kinds (most_kinds (of_half r))
    && (all_good (of_half r) (ieis r) && fresh used (ieis r)))))))))

abbrev pub most_places : ℕ
most_places = 128

-- from row k on, with the IEIs of the rows before it
unfoldable pub first_bad_from : ℕ → List ℕ → List Row → Option ℕ
first_bad_from k used [] = none
first_bad_from k used (r ∷ rs) = pick (ltb k most_places && good_row used r) (first_bad_from (suc k) (ieis r ++ used) rs) (some k)

-- the first bad row; none where the table passes the check
unfoldable pub first_bad : List Row → Option ℕ
first_bad t = first_bad_from 0 [] t

-- ---- places

-- the IEI of an element's first octet: the octet, or its top four bits with zeros below if it is 0x80 or more
-- ("Reading the optional part")
unfoldable pub iei_of : ℕ → ℕ
iei_of x = pick (leb 128 x) (x / 16 * 16) x

-- the place of an IEI: the first row that lists it
unfoldable pub place_from : ℕ → List Row → ℕ → Option ℕ
place_from k [] iei = none
place_from k (r ∷ rs) iei = pick (among iei (ieis r)) (some k) (place_from (suc k) rs iei)

unfoldable pub place_of : List Row → ℕ → Option ℕ
place_of t iei = place_from 0 t iei

abbrev pub no_row : Row
no_row = record { count = 0; slots = []; code = 0; size = 0; least = 0; greatest = 0; kinds = 0 }

unfoldable pub row_at : List Row → ℕ → Row
row_at [] k = no_row
row_at (r ∷ rs) zero = r
row_at (r ∷ rs) (suc k) = row_at rs k

unfoldable pub first_iei : List Row → ℕ → ℕ
first_iei t k = get_or (ieis (row_at t k)) 0 0

-- ---- the index of 256 ("Pieces in port order", 1; "Rows of a table", last paragraph)

abbrev pub no_place : ℕ
no_place = 255

-- an entry: the place of an IEI, or 255. A place that no table that passes has is 255 too, so that an entry is an octet
unfoldable pub index_entry : List Row → ℕ → ℕ
index_entry t iei = min no_place (Option.get_or (place_of t iei) no_place)

-- n entries from IEI k on
unfoldable pub index_from : List Row → ℕ → ℕ → List ℕ
index_from t k zero = []
index_from t k (suc n) = index_entry t k ∷ index_from t (suc k) n

unfoldable pub index : List Row → List ℕ
index t = index_from t 0 256

-- what an index says of an IEI
unfoldable pub place_in : List ℕ → ℕ → Option ℕ
place_in ix iei = pick (eqb (get_or ix iei no_place) no_place) none (some (get_or ix iei no_place))
