-- The value of a place ("Writing"): where its row says it is, whether it fits its form; showing, setting and clearing it.
use Rattle.std.specs.Prelude.{ℕ, zero, suc, ◌+◌, ◌*◌, ◌%◌, List, [], ◌∷◌, ◌++◌, Bool, ◌&&◌, ◌||◌, not, length, get_or, take, drop, ltb, leb, eqb}
use Rattle.std.proofs.Math.Option.{Option, none, some}
use Rattle.definitions.specs.Basic.{pick, is_none, Answer, answer, refusal, refuse, refuse_at, unless, Used, content, too_long, most_octets, most_log, over_at}
use Rattle.definitions.specs.Rows.{Row, Form, half, fixed, tlv, tlv-e, rows_of, row_at, form, first_bad}
use Rattle.definitions.specs.Logs.{Placed, order_list, or_empty, iei_for}

-- where values come from: the received octets and the used set octets
pub record Octets : Type 0 where
  pub received : List ℕ
  pub set : List ℕ

-- the numbers of a place's row: source (0 absent, 1 received, 2 set), start and length of its value, and its IEI
pub record Value : Type 0 where
  pub source : ℕ
  pub start : ℕ
  pub size : ℕ
  pub iei : ℕ

-- how many they are; a mandatory row has the first three
abbrev pub place_width : ℕ
place_width = 4

abbrev pub mandatory_width : ℕ
mandatory_width = 3

-- row k of rows of w numbers. A number that is not there counts as 0, and so does the IEI of a row of three
unfoldable pub value_in : ℕ → List ℕ → ℕ → Value
value_in w rows k =
    record { source = get_or rows (w * k) 0; start = get_or rows (w * k + 1) 0; size = get_or rows (w * k + 2) 0; iei = pick (ltb 3 w) (get_or rows (w * k + 3) 0) 0 }

-- the row of a place
abbrev pub value_at : List ℕ → ℕ → Value
value_at rows k = value_in place_width rows k

unfoldable pub present : Value → Bool
present v = leb 1 v.source

-- the octets that a source names; a source over 2 is malformed, which every answer with a number says first, and read as 2
unfoldable pub source_of : Octets → ℕ → List ℕ
source_of o zero = []
source_of o (suc zero) = o.received
source_of o (suc (suc n)) = o.set

-- the octets of a value, a part of the octets that its row names
unfoldable pub octets_at : Octets → Value → List ℕ
octets_at o v = take v.size (drop v.start (source_of o v.source))

-- a row is malformed if its source is over 2, its value ends past its octets, or it is absent with another number not 0
-- ("Numbers returned")
unfoldable pub good_value : Octets → Value → Bool
good_value o v =
    leb v.source 2
    && pick (present v) (leb (v.start + v.size) (length (source_of o v.source))) (eqb v.start 0 && (eqb v.size 0 && eqb v.iei 0))

-- the lowest of the n numbers from k on at which a test holds
unfoldable pub first_from : (ℕ → Bool) → ℕ → ℕ → Option ℕ
first_from test k zero = none
first_from test k (suc n) = pick (test k) (some k) (first_from test (suc k) n)

-- whether a test holds of one of the first n numbers
abbrev pub any_of : (ℕ → Bool) → ℕ → Bool
any_of test n = not (is_none (first_from test 0 n))

-- whether a row of the first n, of w numbers each, is malformed
unfoldable pub bad_rows : ℕ → Octets → List ℕ → ℕ → Bool
bad_rows w o rows n = any_of (λ k. not (good_value o (value_in w rows k))) n

-- whether a row is present under another IEI
unfoldable pub unlike : Value → ℕ → Bool
unlike v iei = present v && not (eqb v.iei iei)

-- the same by the IEI that the entries of an order log give the place
unfoldable pub apart_at : List Row → List Placed → List ℕ → ℕ → Bool
apart_at t ps rows k = unlike (value_at rows k) (iei_for t ps k)

-- whether a row disagrees with the order log
unfoldable pub apart : List Row → List Placed → List ℕ → Bool
apart t ps rows = any_of (apart_at t ps rows) (length t)

-- whether octets fit a form: half one octet of 0 to 15 (from received octets its four bits of that octet), fixed exactly n,
-- TLV up to 255, TLV-E up to 65,535
unfoldable pub fits : Form → ℕ → List ℕ → Bool
fits half source s = eqb (length s) 1 && (eqb source 1 || leb (get_or s 0 0) 15)
fits (fixed n) source s = eqb (length s) n
fits tlv source s = leb (length s) 255
fits tlv-e source s = leb (length s) 65535

-- whether the value of a present place does not fit
unfoldable pub unfit_at : List Row → Octets → List ℕ → ℕ → Bool
unfit_at t o rows k =
    let v : Value = value_at rows k in
    present v && not (fits (form (row_at t k)) v.source (octets_at o v))

-- ---- what showing, setting and clearing share

-- refusal 3 of the received and the set octets
unfoldable pub values_too_long : List ℕ → Used → Bool
values_too_long received set = ltb most_octets (length received) || too_long most_octets set

-- 4, 3, 2 (1)
unfoldable pub room_checks : List Row → Bool → List ℕ → List (Option Answer)
room_checks t long rows =
    refuse_at 4 (first_bad t)
    ∷ refuse long 3 []
    ∷ refuse (ltb (length rows) (place_width * length t)) 2 (1 ∷ [])
    ∷ []

-- whether any row is malformed, or a place is not in the table
unfoldable pub bad_place : List Row → Octets → List ℕ → ℕ → Bool
bad_place t o rows k = bad_rows place_width o rows (length t) || leb (length t) k

-- then 11 (3), where no log is seen
unfoldable pub place_checks : List Row → Bool → Octets → List ℕ → ℕ → List (Option Answer)
place_checks t long o rows k = room_checks t long rows ++ (refuse (bad_place t o rows k) 11 (3 ∷ []) ∷ [])

-- ---- showing

-- a present value as it is shown: a half octet as its four bits, another by its source, start and length; then the IEI
unfoldable pub shown_by : Form → Octets → Value → List ℕ
shown_by half o v = (get_or (octets_at o v) 0 0 % 16) ∷ v.iei ∷ []
shown_by (fixed n) o v = v.source ∷ v.start ∷ v.size ∷ v.iei ∷ []
shown_by tlv o v = v.source ∷ v.start ∷ v.size ∷ v.iei ∷ []
shown_by tlv-e o v = v.source ∷ v.start ∷ v.size ∷ v.iei ∷ []

-- then 10, of that place alone; an absent place shows nothing
unfoldable pub showing : List ℕ → List ℕ → List ℕ → Used → ℕ → Answer
showing table rows received set k =
    let t : List Row = rows_of table in
    let o : Octets = record { received = received; set = content set } in
    let v : Value = value_at rows k in
    unless (refusal (place_checks t (values_too_long received set) o rows k ++ (refuse (unfit_at t o rows k) 10 (k ∷ []) ∷ []))) (λ a. a)
    (answer 0 (pick (present v) (shown_by (form (row_at t k)) o v) []))

-- ---- setting and clearing

-- the answer, and the lent rows and set octets afterwards
pub record Edited : Type 0 where
  pub said : Answer
  pub rows : List ℕ
  pub set : List ℕ

-- setting appends the value to the used set octets and points the row there, with the IEI that the order log gives the place: refusal
-- 3 also where these octets would be over their limit, 11 (1) of the log, 11 (3) also where a row disagrees with it, then 10 of the
-- new value, then 12 with the set octets needed
unfoldable pub setting : List ℕ → List ℕ → List ℕ → Used → Used → ℕ → List ℕ → Edited
setting table rows received set order k new =
    let t : List Row = rows_of table in
    let ps : List Placed = or_empty (order_list (content order)) in
    let after : ℕ = set.used + length new in
    let long : Bool = too_long most_log order || (values_too_long received set || ltb most_octets after) in
    unless
    (refusal
    (room_checks t long rows
    ++ (refuse (is_none (order_list (content order))) 11 (1 ∷ [])
    ∷ refuse (bad_place t (record { received = received; set = content set }) rows k || apart t ps rows) 11 (3 ∷ [])
    ∷ refuse (not (fits (form (row_at t k)) 2 new)) 10 (k ∷ [])
    ∷ refuse (ltb (length set.buffer) after) 12 (after ∷ [])
    ∷ [])))
    (λ a. record { said = a; rows = rows; set = set.buffer })
    (record { said = answer 0 (after ∷ []); rows = over_at (place_width * k) (2 ∷ set.used ∷ length new ∷ iei_for t ps k ∷ []) rows; set = over_at set.used new set.buffer })

-- clearing makes a place absent
unfoldable pub clearing : List ℕ → List ℕ → List ℕ → Used → ℕ → Edited
clearing table rows received set k =
    unless
    (refusal (place_checks (rows_of table) (values_too_long received set) (record { received = received; set = content set }) rows k))
    (λ a. record { said = a; rows = rows; set = set.buffer })
    (record { said = answer 0 []; rows = over_at (place_width * k) (0 ∷ 0 ∷ 0 ∷ 0 ∷ []) rows; set = set.buffer })
