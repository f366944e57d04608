-- An edit's answer, and what it leaves in lent memory, by the definitions of setting and clearing.
use Rattle.std.specs.Prelude.{ℕ, ◌+◌, ◌*◌, ◌≤◌, ◌≡◌, List, [], ◌∷◌, ◌||◌, not, length, ltb, Option as Answered, Some, None, Result, Ok, Err}
use Rattle.std.proofs.Math.Option.{none}
use Rattle.definitions.specs.Basic.{is_none, Answer, answer, refuse, refusal, unless, Used, content, over_at}
use Rattle.definitions.specs.Rows.{Row, Form, form, rows_of, row_at, first_bad}
use Rattle.definitions.specs.Logs.{order_list, or_empty, iei_for}
use Rattle.definitions.specs.Values.{place_width, fits, bad_place, apart, Edited as DefEdited}
use Rattle.values.specs.declared.check.PlaceError.{PlaceError}
use Rattle.edits.specs.declared.EditError.{EditError}

-- a refusal of the checks before an edit
abbrev pub edit_error : PlaceError → EditError
edit_error (PlaceError.BadTable k) = EditError.BadTable k
edit_error PlaceError.TooLong = EditError.TooLong
edit_error PlaceError.NoRoom = EditError.NoRoom
edit_error PlaceError.Malformed = EditError.Malformed

-- what an edit answers: the set octets then used, none of a place that is cleared; or a refusal
abbrev pub Edited : Type 0
Edited = Result (Answered ℕ) EditError

abbrev pub edited_as : Edited → Answer
edited_as (Ok (Some n)) = answer 0 (n ∷ [])
edited_as (Ok None) = answer 0 []
edited_as (Err (EditError.BadTable k)) = answer 4 (k ∷ [])
edited_as (Err EditError.TooLong) = answer 3 []
edited_as (Err EditError.NoRoom) = answer 2 (1 ∷ [])
edited_as (Err EditError.MalformedLog) = answer 11 (1 ∷ [])
edited_as (Err EditError.Malformed) = answer 11 (3 ∷ [])
edited_as (Err (EditError.Unfit k)) = answer 10 (k ∷ [])
edited_as (Err (EditError.NoSet n)) = answer 12 (n ∷ [])

-- the answer, and the lent rows and set octets at exit, are those of an edit
pub record Edits (e : DefEdited) (a : Edited) (rows set : List ℕ) : Type 0 where
  pub answers : edited_as a ≡ e.said
  pub rows_are : rows ≡ e.rows
  pub set_is : set ≡ e.set

-- a refusal leaves all as it was
abbrev pub unedited : List ℕ → List ℕ → Answer → DefEdited
unedited rows set a = record { said = a; rows = rows; set = set }

-- setting behind the checks of the rows: 10 of the new value, 12, or done under an IEI
unfoldable pub set_by : Form → List ℕ → Used → ℕ → ℕ → List ℕ → DefEdited
set_by f rows set k iei new =
    unless
    (refusal (refuse (not (fits f 2 new)) 10 (k ∷ []) ∷ refuse (ltb (length set.buffer) (set.used + length new)) 12 ((set.used + length new) ∷ []) ∷ []))
    (unedited rows set.buffer)
    (record { said = answer 0 ((set.used + length new) ∷ []); rows = over_at (place_width * k) (2 ∷ set.used ∷ length new ∷ iei ∷ []) rows; set = over_at set.used new set.buffer })

-- setting behind the checks before the rows, by an order log that is used to its end
unfoldable pub set_logged : List Row → List ℕ → List ℕ → Used → List ℕ → ℕ → List ℕ → DefEdited
set_logged t rows received set order k new =
    unless
    (refusal
    (refuse (is_none (order_list order)) 11 (1 ∷ [])
    ∷ refuse (bad_place t (record { received = received; set = content set }) rows k || apart t (or_empty (order_list order)) rows) 11 (3 ∷ [])
    ∷ []))
    (unedited rows set.buffer)
    (set_by (form (row_at t k)) rows set k (iei_for t (or_empty (order_list order)) k) new)

-- what is known behind the checks before the rows
pub record Behind (table rows set : List ℕ) (used : ℕ) (order new : List ℕ) : Type 0 where
  pub passes : first_bad (rows_of table) ≡ none
  pub room : place_width * length (rows_of table) ≤ length rows
  pub within : used ≤ length set
  pub short : used + length new ≤ 65535
  pub log-short : length order ≤ 131070
