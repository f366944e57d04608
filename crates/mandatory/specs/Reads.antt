-- Reading's answer, and what it leaves in the lent rows, by the definition of reading; the rows from a state on.
use Rattle.std.specs.Prelude.{ℕ, suc, ◌+◌, ◌≤◌, ◌≡◌, List, [], ◌∷◌, ◌++◌, Bool, true, false, drop, Option as Answered, Some, None, Result, Ok, Err}
use Rattle.definitions.specs.Basic.{Answer, answer}
use Rattle.definitions.specs.Mandatory.{MandatoryRow, mandatory_row_at, mandatory_form, found_by, RowsRead}
use Rattle.mandatory_ie.specs.Founds.{found_as}
use Rattle.mandatory.specs.Notes.{notes_as, Tidy}
use Rattle.mandatory_ie.specs.declared.Fault.{Fault}
use Rattle.mandatory_ie.specs.declared.Lacking.{Lacking}
use Rattle.mandatory_ie.specs.declared.Found.{Found}
use Rattle.mandatory.specs.declared.decode.MandatoryError.{MandatoryError}
use Rattle.mandatory.specs.declared.decode.MandatoryRead.{MandatoryRead}

-- ---- the answer

abbrev pub error_number : MandatoryError → ℕ
error_number MandatoryError.NoRoom = 2
error_number MandatoryError.TooLong = 3
error_number (MandatoryError.BadTable k) = 4
error_number MandatoryError.NoTable = 5
error_number (MandatoryError.Missing k) = 6
error_number (MandatoryError.Truncated k) = 7
error_number (MandatoryError.TooShort k) = 8
error_number (MandatoryError.Syntax k) = 9

abbrev pub number_of : Result ℕ MandatoryError → ℕ
number_of (Ok n) = 0
number_of (Err e) = error_number e

-- its values before the notes
abbrev pub error_values : MandatoryError → List ℕ
error_values MandatoryError.NoRoom = 1 ∷ []
error_values MandatoryError.TooLong = []
error_values (MandatoryError.BadTable k) = k ∷ []
error_values MandatoryError.NoTable = []
error_values (MandatoryError.Missing k) = k ∷ []
error_values (MandatoryError.Truncated k) = k ∷ []
error_values (MandatoryError.TooShort k) = k ∷ []
error_values (MandatoryError.Syntax k) = k ∷ []

abbrev pub values_of : Result ℕ MandatoryError → List ℕ
values_of (Ok n) = n ∷ []
values_of (Err e) = error_values e

unfoldable pub read_as : MandatoryRead → Answer
read_as r = answer (number_of r.answer) (values_of r.answer ++ notes_as r.notes)

-- an answer that is said; what is not used of the notes is zero, so that all of it is determined
pub record Judges (a : Answer) (r : MandatoryRead) : Type 0 where
  pub answers : read_as r ≡ a
  pub tidy : Tidy r.notes

-- with the lent rows at exit; a refusal before the rows has no notes
pub record Reads (d : RowsRead) (r : MandatoryRead) (rows : List ℕ) : Type 0 where
  pub answers : read_as r ≡ d.said
  pub tidy : Tidy r.notes
  pub bare : 1 ≤ number_of r.answer → number_of r.answer ≤ 5 → notes_as r.notes ≡ []
  pub rows_are : rows ≡ d.rows

-- ---- the rows from a state on

-- the refusal of a row that has no value, and of one by its fault: lenient, none refuses
abbrev pub lacks : Lacking → ℕ → MandatoryError
lacks Lacking.Missing k = MandatoryError.Missing k
lacks Lacking.Truncated k = MandatoryError.Truncated k

abbrev pub refused_by : Bool → Fault → ℕ → Answered MandatoryError
refused_by true fault k = None
refused_by false Fault.TooShort k = Some (MandatoryError.TooShort k)
refused_by false Fault.Syntax k = Some (MandatoryError.Syntax k)

abbrev pub fault_refused : Bool → Answered Fault → ℕ → Answered MandatoryError
fault_refused lenient None k = None
fault_refused lenient (Some fault) k = refused_by lenient fault k

-- what row k finds in the octets left, and what that comes to
abbrev pub found_in : List MandatoryRow → ℕ → List ℕ → Result Found Lacking
found_in rs k s = found_as (mandatory_row_at rs k) (found_by (mandatory_form (mandatory_row_at rs k)) s)

abbrev pub ended_by : Answered MandatoryError → Found → Result Found MandatoryError
ended_by None f = Ok f
ended_by (Some e) f = Err e

abbrev pub judged_row : Bool → ℕ → Result Found Lacking → Result Found MandatoryError
judged_row lenient k (Err l) = Err (lacks l k)
judged_row lenient k (Ok f) = ended_by (fault_refused lenient f.fault k) f

-- the note of a row
abbrev pub note_of : ℕ → Answered Fault → List ℕ
note_of k None = []
note_of k (Some Fault.TooShort) = k ∷ 8 ∷ []
note_of k (Some Fault.Syntax) = k ∷ 9 ∷ []

-- a refusal by a fault, with the notes before it; or rest goes on
abbrev pub refused_or : ℕ → List ℕ → Answered MandatoryError → Answer → Answer
refused_or k notes None rest = rest
refused_or k notes (Some e) rest = answer (error_number e) (k ∷ notes)

-- row k by what it finds, with the notes before it; rest goes on behind the octets that it consumes, with the notes by then
abbrev pub judged_by : Bool → ℕ → List ℕ → Result Found Lacking → (ℕ → List ℕ → Answer) → Answer
judged_by lenient k notes (Err Lacking.Missing) rest = answer 6 (k ∷ notes)
judged_by lenient k notes (Err Lacking.Truncated) rest = answer 7 (k ∷ notes)
judged_by lenient k notes (Ok f) rest = refused_or k notes (fault_refused lenient f.fault k) (rest f.took (notes ++ note_of k f.fault))

-- the answer of row k and those behind it, at a position with the octets from there on
unfoldable pub judged_from : Bool → ℕ → ℕ → List MandatoryRow → List ℕ → List ℕ → Answer
judged_from lenient k at [] s notes = answer 0 (at ∷ notes)
judged_from lenient k at (r ∷ rs) s notes =
    judged_by lenient k notes (found_as r (found_by (mandatory_form r) s)) (λ took. judged_from lenient (suc k) (at + took) rs (drop took s))

-- the numbers that they leave, up to a row that has no value
abbrev pub rows_by : ℕ → Result Found Lacking → (ℕ → List ℕ) → List ℕ
rows_by at (Err l) rest = []
rows_by at (Ok f) rest = 1 ∷ (at + f.start) ∷ f.len ∷ rest f.took

unfoldable pub rows_from : ℕ → List MandatoryRow → List ℕ → List ℕ
rows_from at [] s = []
rows_from at (r ∷ rs) s = rows_by at (found_as r (found_by (mandatory_form r) s)) (λ took. rows_from (at + took) rs (drop took s))
