-- What writing needs to know before an octet is written, by the definitions.
use Rattle.std.specs.Prelude.{ℕ, ◌+◌, ◌*◌, ◌≤◌, ◌<◌, ◌≡◌, List, [], Bool, true, false, ◌&&◌, ◌||◌, not, length, get_or, Option as Answered, Some, None, Result, Ok, Err}
use Rattle.std.proofs.Math.Option.{Option, none, some}
use Rattle.definitions.specs.Basic.{pick, bit, among}
use Rattle.definitions.specs.Rows.{Form, half, fixed, tlv, tlv-e, rows_of, first_iei, first_bad, place_of, index}
use Rattle.definitions.specs.Values.{value_at, present, good_value, any_of, unfit_at}
use Rattle.definitions.specs.Logs.{Placed, known_iei, not_known, ignored, order_list}
use Rattle.definitions.specs.Writing.{Filled, element_at, logged, unfit}
use Rattle.definitions.proofs.WriteLaws.{logged_length}
use Rattle.seen.specs.Seen.{set_of, seen_of, including_place}
use Rattle.measured_writing.specs.Added.{added_octets}
use Rattle.agreement.specs.Agreed.{apart_by, entry_set, Agreeing}
use Rattle.measured_writing.specs.declared.sizes.Tally.{Tally}
use Rattle.measured_writing.specs.declared.sizes.Logged.{Logged}
use Rattle.measured_writing.specs.declared.sizes.RowFault.{RowFault}
use Rattle.measured_writing.specs.declared.sizes.SurveyError.{SurveyError}

-- how many octets an element takes with a value of so many
abbrev pub takes : Form → ℕ → ℕ
takes half n = 1
takes (fixed k) n = 1 + n
takes tlv n = 2 + n
takes tlv-e n = 3 + n

-- the element of a place, under whatever IEI
unfoldable pub place_length : Filled → ℕ → ℕ
place_length m k = length (element_at m k 0)

-- the most that it takes
abbrev pub most_ie : ℕ
most_ie = 65538

-- a table that passes and its index, with octets within their limit
pub record Sized (table entries received set : List ℕ) : Type 0 where
  pub passes : first_bad (rows_of table) ≡ none
  pub indexed : entries ≡ index (rows_of table)
  pub received-short : length received ≤ 65535
  pub set-short : length set ≤ 65535

-- ---- the order log

-- the octets of an entry's element
abbrev pub known_length : Filled → Option ℕ → ℕ
known_length m none = 0
known_length m (some k) = place_length m k

unfoldable pub entry_length : Filled → Placed → ℕ
entry_length m (known_iei i) = known_length m (place_of m.table i)
entry_length m not_known = 0
entry_length m (ignored r) = 0

-- the first n octets of a log are from 1 to 4, each an entry of no known element
abbrev pub AsidesAre : List ℕ → ℕ → Type 0
AsidesAre order n = (j : ℕ) → j < n → (1 ≤ get_or order j 0) × (get_or order j 0 ≤ 4)

-- with one entry more
pub record Tallied (m : Filled) (p : Placed) (t r : Tally) : Type 0 where
  pub octets : r.octets ≡ t.octets + entry_length m p
  pub few : r.octets ≤ t.octets + most_ie
  pub set : set_of r.seen ≡ entry_set m.table p (set_of t.seen)

-- a tally with entries left: with those it is the one of the whole log
pub record Tells (m : Filled) (order : List ℕ) (octets set : ℕ) (qs : List Placed) : Type 0 where
  pub ps : List Placed
  pub is : order_list order ≡ some ps
  pub sum : octets + logged_length m qs ≡ logged_length m ps
  pub places : (k : ℕ) → (among k (logged m.table qs) || bit k set) ≡ among k (logged m.table ps)

-- what a walk over the log found, and its tally alone
abbrev pub found_by : Tally → Bool → Logged
found_by t apart = record { octets = t.octets; seen = t.seen; apart = apart }

abbrev pub tally_of : Logged → Tally
tally_of t = record { octets = t.octets; seen = t.seen }

pub record LoggedBy (m : Filled) (order : List ℕ) (t : Logged) : Type 0 where
  pub few : t.octets ≤ most_ie * length order
  pub tells : Tells m order t.octets (set_of t.seen) []
  pub agrees : Agreeing m.table m.rows tells.ps [] (set_of t.seen) t.apart

abbrev pub WalkedBy : Filled → List ℕ → Answered Logged → Type 0
WalkedBy m order (Some t) = LoggedBy m order t
WalkedBy m order None = order_list order ≡ none

-- ---- the places

-- whether a row is malformed, or is present under another IEI than its first, with a place that the log does not name
unfoldable pub wrong_at : Filled → ℕ → ℕ → Bool
wrong_at m set k = not (good_value m.octets (value_at m.rows k)) || apart_by m.rows set k (first_iei m.table k)

abbrev pub wrong : Filled → ℕ → Bool
wrong m set = any_of (wrong_at m set) (length m.table)

-- one place, by the set of the logged ones
abbrev pub LookedAt : Filled → ℕ → ℕ → Result (Answered ℕ) RowFault → Type 0
LookedAt m set k (Err RowFault.Bad) = wrong_at m set k ≡ true
LookedAt m set k (Err RowFault.Unfit) = (wrong_at m set k ≡ false) × (unfit_at m.table m.octets m.rows k ≡ true)
LookedAt m set k (Ok None) = (wrong_at m set k ≡ false) × (present (value_at m.rows k) ≡ false)
LookedAt m set k (Ok (Some n)) =
    (wrong_at m set k ≡ false) × (unfit_at m.table m.octets m.rows k ≡ false)
    × (present (value_at m.rows k) ≡ true) × (n ≡ place_length m k) × (n ≤ most_ie)

-- with a present place, by the set of the logged ones
abbrev pub added_to : ℕ → ℕ → ℕ → Tally → Tally
added_to set k n t = pick (bit k set) t (record { octets = t.octets + n; seen = seen_of (including_place k (set_of t.seen)) })

-- the set of the added places: those present that the order log does not name
abbrev pub AddedAre : Filled → ℕ → ℕ → Type 0
AddedAre m set added = (k : ℕ) → k < length m.table → bit k added ≡ (present (value_at m.rows k) && not (bit k set))

-- all of them, by the set of the logged ones
abbrev pub SurveyedBy : Filled → ℕ → Result Tally SurveyError → Type 0
SurveyedBy m set (Err SurveyError.Malformed) = wrong m set ≡ true
SurveyedBy m set (Err (SurveyError.Unfit k)) = (wrong m set ≡ false) × (unfit m.table m.octets m.rows ≡ some k)
SurveyedBy m set (Ok t) =
    (wrong m set ≡ false) × (unfit m.table m.octets m.rows ≡ none)
    × AddedAre m set (set_of t.seen) × (t.octets ≡ length (added_octets m (set_of t.seen) 0 (length m.table))) × (t.octets ≤ most_ie * 128)
