-- Showing a value: the numbers of a row, and the answer, by the definition of showing.
use Rattle.std.specs.Prelude.{ℕ, [], ◌∷◌, Option as Answered, Some, None, Result, Ok, Err}
use Rattle.definitions.specs.Basic.{pick, Answer, answer}
use Rattle.definitions.specs.Rows.{Form}
use Rattle.definitions.specs.Values.{Octets, Value, present, octets_at, fits, shown_by}
use Rattle.values.specs.declared.check.PlaceError.{PlaceError}
use Rattle.values.specs.declared.show.Shown.{Shown}
use Rattle.values.specs.declared.show.ShowError.{ShowError}

-- a refusal of the checks before showing
abbrev pub show_error : PlaceError → ShowError
show_error (PlaceError.BadTable k) = ShowError.BadTable k
show_error PlaceError.TooLong = ShowError.TooLong
show_error PlaceError.NoRoom = ShowError.NoRoom
show_error PlaceError.Malformed = ShowError.Malformed

abbrev pub shown_as : Result (Answered Shown) ShowError → Answer
shown_as (Ok None) = answer 0 []
shown_as (Ok (Some (Shown.Half x iei))) = answer 0 (x ∷ iei ∷ [])
shown_as (Ok (Some (Shown.Value r))) = answer 0 (r.source ∷ r.start ∷ r.len ∷ r.iei ∷ [])
shown_as (Err (ShowError.BadTable k)) = answer 4 (k ∷ [])
shown_as (Err ShowError.TooLong) = answer 3 []
shown_as (Err ShowError.NoRoom) = answer 2 (1 ∷ [])
shown_as (Err ShowError.Malformed) = answer 11 (3 ∷ [])
shown_as (Err (ShowError.Unfit k)) = answer 10 (k ∷ [])

-- a row of a form, shown: refusal 10 where its value does not fit
unfoldable pub shown_row : Form → Octets → Value → ℕ → Answer
shown_row f o v k =
    pick (present v) (pick (fits f v.source (octets_at o v)) (answer 0 (shown_by f o v)) (answer 10 (k ∷ []))) (answer 0 [])
