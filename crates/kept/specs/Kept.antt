-- The answers of the kept log by the definitions, and what a walk over it holds.
use Rattle.std.specs.Prelude.{ℕ, ◌+◌, ◌≤◌, List, [], ◌∷◌, ◌&&◌, length, take, drop, eqb, leb, Option as Answered, Some, None, Result, Ok, Err}
use Rattle.std.proofs.Math.Option.{Option, none, some}
use Rattle.std.specs.Borrow.{Bor}
use Rattle.definitions.specs.Basic.{pick, Answer, answer, Used, over, most_octets}
use Rattle.definitions.specs.Logs.{Count as DefCount, kept_entry}
use Rattle.definitions.proofs.LogWalks.{kept_log, told}
use Rattle.octets.specs.Places.{StandsAt}
use Rattle.kept.specs.declared.Count.{Count}
use Rattle.kept.specs.declared.Walk.{Walk}
use Rattle.kept.specs.declared.Span.{Span}
use Rattle.kept.specs.declared.LogError.{LogError}
use Rattle.kept.specs.declared.PushError.{PushError}

-- ---- the answers' numbers and values

-- a log refused when it is asked, and when it is pushed to
abbrev pub push_error : LogError → PushError
push_error LogError.TooLong = PushError.TooLong
push_error LogError.Malformed = PushError.Malformed

-- which is the value of 11, room that of 2
abbrev pub pushed_as : ℕ → ℕ → Result ℕ PushError → Answer
pushed_as which room (Ok n) = answer 0 (n ∷ [])
pushed_as which room (Err PushError.TooLong) = answer 3 []
pushed_as which room (Err PushError.Malformed) = answer 11 (which ∷ [])
pushed_as which room (Err PushError.NoRoom) = answer 2 (room ∷ [])

abbrev pub counted_as : Result ℕ LogError → Answer
counted_as (Ok n) = answer 0 (n ∷ [])
counted_as (Err LogError.TooLong) = answer 3 []
counted_as (Err LogError.Malformed) = answer 11 (2 ∷ [])

abbrev pub got_as : Result (Answered Span) LogError → Answer
got_as (Ok (Some s)) = answer 0 (s.start ∷ s.len ∷ [])
got_as (Ok None) = answer 0 []
got_as (Err LogError.TooLong) = answer 3 []
got_as (Err LogError.Malformed) = answer 11 (2 ∷ [])

-- a lent buffer with its used count
abbrev pub used_of : List ℕ → ℕ → Used
used_of buffer used = record { buffer = buffer; used = used }

-- octets in the front of a buffer, if there is room for all of them
unfoldable pub if_room : List ℕ → List ℕ → List ℕ
if_room s buffer = pick (leb (length s) (length buffer)) (over s buffer) buffer

-- the element that an answer names, as a part of the log; no octet where it names none
abbrev pub part_of : List ℕ → List ℕ → List ℕ
part_of log [] = []
part_of log (start ∷ []) = []
part_of log (start ∷ len ∷ vs) = take len (drop start log)

-- such an element stands in the log at the start that is named
abbrev pub PlacedBy : Bor (List ℕ) → List ℕ → Bor (List ℕ) → Type 0
PlacedBy log [] part = Unit
PlacedBy log (start ∷ []) part = Unit
PlacedBy log (start ∷ len ∷ vs) part = start ≤ length log.now → StandsAt start log part

-- ---- a walk

abbrev pub count_of : Option DefCount → Answered Count
count_of none = None
count_of (some c) = Some (record { value = c.value; took = c.took })

abbrev pub count_from : ℕ → ℕ → Option DefCount
count_from value took = some (record { value = value; took = took })

-- past an entry; the one wanted is remembered
unfoldable pub passed : Walk → ℕ → DefCount → Walk
passed w want c =
    record { at = w.at + c.took + c.value; count = w.count + 1; wanted = pick (eqb w.count want) (Some (record { start = w.at + c.took; len = c.value })) w.wanted }

abbrev pub step_of : Walk → ℕ → Option DefCount → Answered Walk
step_of w want none = None
step_of w want (some c) = Some (passed w want c)

-- what a walk has found: start and length of the wanted element, or nothing yet
abbrev pub found_by : Answered Span → List ℕ
found_by None = []
found_by (Some s) = s.start ∷ s.len ∷ []

-- what a finished walk tells: how many elements there are, and where the wanted one is
abbrev pub told_by : Answered Walk → Option (List ℕ)
told_by None = none
told_by (Some w) = some (w.count ∷ found_by w.wanted)

-- the same from where a walk is, by the elements that are left
abbrev pub tell : Walk → ℕ → Option (List (List ℕ)) → Option (List ℕ)
tell w want = told kept_log want w.at w.count (found_by w.wanted)

-- a walk that begins
abbrev pub start_walk : Walk
start_walk = record { at = 0; count = 0; wanted = None }

-- an element in the front of a buffer behind its count, if it is one that a log can hold and there is room
unfoldable pub kept_into : List ℕ → List ℕ → List ℕ
kept_into e buffer = pick (leb 1 (length e) && leb (length e) most_octets) (if_room (kept_entry e) buffer) buffer

-- how many octets that takes; 0 where nothing is written
unfoldable pub kept_takes : List ℕ → List ℕ → ℕ
kept_takes e buffer = pick (leb 1 (length e) && leb (length e) most_octets) (pick (leb (length (kept_entry e)) (length buffer)) (length (kept_entry e)) 0) 0
