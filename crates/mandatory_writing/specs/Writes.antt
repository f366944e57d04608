-- Writing's answer, and what it leaves in the output, by the definition of writing; sizes, and rows from a state on.
use Rattle.std.specs.Prelude.{ℕ, suc, ◌+◌, ◌≤◌, ◌≡◌, List, [], ◌∷◌, Bool, ◌||◌, not, length, ltb, Option as Answered, Some, None, Result, Ok, Err}
use Rattle.std.proofs.Math.Option.{Option, none, some}
use Rattle.definitions.specs.Basic.{is_none, Answer, answer, refuse, refuse_at, refusal, unless, over}
use Rattle.definitions.specs.Mandatory.{MandatoryForm, low_half, high_half, fixed_v, lv, lv-e, MandatoryRow, mandatory_form, mandatory_row_at, fits_mandatory, rows_written, RowsWrote}
use Rattle.definitions.specs.Values.{Octets, mandatory_width, value_in, octets_at, present, first_from, bad_rows}
use Rattle.values.specs.Rows.{sources_of}
use Rattle.mandatory_writing.specs.declared.encode.MandatoryWriteError.{MandatoryWriteError}

-- ---- the answer

abbrev pub wrote_as : Result ℕ MandatoryWriteError → Answer
wrote_as (Ok n) = answer 0 (n ∷ [])
wrote_as (Err MandatoryWriteError.NoRoom) = answer 2 (1 ∷ [])
wrote_as (Err MandatoryWriteError.TooLong) = answer 3 []
wrote_as (Err (MandatoryWriteError.BadTable k)) = answer 4 (k ∷ [])
wrote_as (Err MandatoryWriteError.NoTable) = answer 5 []
wrote_as (Err (MandatoryWriteError.Unfit k)) = answer 10 (k ∷ [])
wrote_as (Err MandatoryWriteError.Malformed) = answer 11 (3 ∷ [])
wrote_as (Err (MandatoryWriteError.OutputShort n)) = answer 12 (n ∷ [])

pub record Writes (d : RowsWrote) (r : Result ℕ MandatoryWriteError) (output : List ℕ) : Type 0 where
  pub answers : wrote_as r ≡ d.said
  pub output-is : output ≡ d.output

-- ---- what fits

abbrev pub misfit_as : Answered ℕ → Option ℕ
misfit_as None = none
misfit_as (Some k) = some k

-- whether the value of row k fits
unfoldable pub fits_at : List MandatoryRow → Octets → List ℕ → ℕ → Bool
fits_at t o rows k = fits_mandatory (mandatory_form (mandatory_row_at t k)) (value_in mandatory_width rows k).source (octets_at o (value_in mandatory_width rows k))

-- the lowest of the n rows from k on that does not
abbrev pub misfit_in : List MandatoryRow → Octets → List ℕ → ℕ → ℕ → Option ℕ
misfit_in t o rows k n = first_from (λ j. not (fits_at t o rows j)) k n

-- ---- sizes

-- received and set octets within their limit
pub record Short (received set : List ℕ) : Type 0 where
  pub received-short : length received ≤ 65535
  pub set-short : length set ≤ 65535

-- a value of so many octets, written
unfoldable pub encoded_size : MandatoryForm → ℕ → ℕ
encoded_size low_half n = 0
encoded_size high_half n = 1
encoded_size (fixed_v m) n = n
encoded_size lv n = 1 + n
encoded_size lv-e n = 2 + n

unfoldable pub size_at : MandatoryRow → Octets → List ℕ → ℕ → ℕ
size_at r o rows k = encoded_size (mandatory_form r) (length (octets_at o (value_in mandatory_width rows k)))

-- row k and those behind it
unfoldable pub size_from : Octets → List ℕ → ℕ → List MandatoryRow → ℕ
size_from o rows k [] = 0
size_from o rows k (r ∷ rs) = size_at r o rows k + size_from o rows (suc k) rs

-- ---- the rows, their values and the output, after the checks before them

-- what is known where the rows are written: each value fits, and there is room
pub record Ready (t : List MandatoryRow) (received set rows output : List ℕ) : Type 0 where
  pub short : Short received set
  pub few : length t ≤ 32
  pub fit : misfit_in t (sources_of received set) rows 0 (length t) ≡ none
  pub room : length (rows_written (sources_of received set) rows 0 0 t) ≤ length output

abbrev pub absent_in : List ℕ → ℕ → Option ℕ
absent_in rows n = first_from (λ k. not (present (value_in mandatory_width rows k))) 0 n

unfoldable pub wrote_by : List MandatoryRow → Octets → List ℕ → List ℕ → RowsWrote
wrote_by t o rows output =
    let w : List ℕ = rows_written o rows 0 0 t in
    unless
    (refusal
    (refuse (bad_rows mandatory_width o rows (length t) || not (is_none (absent_in rows (length t)))) 11 (3 ∷ [])
    ∷ refuse_at 10 (misfit_in t o rows 0 (length t))
    ∷ refuse (ltb (length output) (length w)) 12 (length w ∷ [])
    ∷ []))
    (λ a. record { said = a; output = output })
    (record { said = answer 0 (length w ∷ []); output = over w output })
