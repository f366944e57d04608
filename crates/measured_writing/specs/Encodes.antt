-- Writing's answer, and what it leaves in the lent output, by the definition of writing.
use Rattle.std.specs.Prelude.{ℕ, ◌*◌, ◌≤◌, ◌≡◌, List, [], ◌∷◌, length, Result, Ok, Err}
use Rattle.definitions.specs.Basic.{Answer, answer, Used}
use Rattle.definitions.specs.Rows.{rows_of}
use Rattle.definitions.specs.Writing.{Wrote}
use Rattle.measured_writing.specs.Sizes.{Sized}
use Rattle.measured_writing.specs.declared.sizes.SurveyError.{SurveyError}
use Rattle.measured_writing.specs.declared.encode.Which.{Which}
use Rattle.measured_writing.specs.declared.encode.EncodeError.{EncodeError}

abbrev pub which_as : Which → ℕ
which_as Which.Order = 1
which_as Which.Kept = 2
which_as Which.Rows = 3

-- a refusal by the rows
abbrev pub survey_error : SurveyError → EncodeError
survey_error SurveyError.Malformed = EncodeError.Malformed Which.Rows
survey_error (SurveyError.Unfit k) = EncodeError.Unfit k

-- what writing answers: the octets written, or a refusal
abbrev pub Encoded : Type 0
Encoded = Result ℕ EncodeError

abbrev pub encoded_as : Encoded → Answer
encoded_as (Ok n) = answer 0 (n ∷ [])
encoded_as (Err EncodeError.NoRows) = answer 2 (1 ∷ [])
encoded_as (Err EncodeError.TooLong) = answer 3 []
encoded_as (Err (EncodeError.BadTable row)) = answer 4 (row ∷ [])
encoded_as (Err EncodeError.NoTable) = answer 5 []
encoded_as (Err (EncodeError.Unfit place)) = answer 10 (place ∷ [])
encoded_as (Err (EncodeError.Malformed which)) = answer 11 (which_as which ∷ [])
encoded_as (Err (EncodeError.NoOutput need)) = answer 12 (need ∷ [])

-- the answer, and the lent output at exit, are those of a writing
pub record Encodes (w : Wrote) (r : Encoded) (output : List ℕ) : Type 0 where
  pub answers : encoded_as r ≡ w.said
  pub output-is : output ≡ w.output

-- a buffer that is used to its end
abbrev pub used_up : List ℕ → Used
used_up s = record { buffer = s; used = length s }

-- within all limits, with a row for each place
pub record Limited (table entries rows received set kept order : List ℕ) : Type 0 where
  pub sized : Sized table entries received set
  pub kept-short : length kept ≤ 131070
  pub order-short : length order ≤ 131070
  pub rows-there : 4 * length (rows_of table) ≤ length rows
