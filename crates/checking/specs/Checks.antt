-- The checker's answer by the definition of checking, and what each half of its pass finds.
use Rattle.std.specs.Prelude.{ℕ, ◌≤◌, ◌≡◌, List, [], ◌∷◌, false, length, drop, Option as Answered, Some, None, Result, Ok, Err}
use Rattle.std.proofs.Math.Option.{Option, none, some}
use Rattle.definitions.specs.Basic.{Answer, answer, unless, most_octets}
use Rattle.definitions.specs.Rows.{Row, rows_of, first_bad}
use Rattle.definitions.specs.Length.{unknown_length, missing}
use Rattle.definitions.specs.Elements.{nothing_met, parted_f}
use Rattle.definitions.specs.Reading.{cut_of}
use Rattle.rows.specs.Numbers.{numbers_at, row_said}
use Rattle.rows.specs.Indexed.{Indexed}
use Rattle.elements.specs.Steps.{fit_of, came_strange, cut_answer}
use Rattle.elements.specs.declared.element.Came.{Came}
use Rattle.elements.specs.declared.element.Cut.{Cut}
use Rattle.length.specs.declared.CutShort.{CutShort}
use Rattle.checking.specs.declared.PartError.{PartError}

abbrev pub part_check_as : Result Unit PartError → Answer
part_check_as (Ok x) = answer 0 []
part_check_as (Err (PartError.Offends at)) = answer 29 (at ∷ [])
part_check_as (Err (PartError.CutShort c)) = cut_answer c
part_check_as (Err PartError.TooLong) = answer 3 []
part_check_as (Err (PartError.BadTable row)) = answer 4 (row ∷ [])
part_check_as (Err PartError.NoTable) = answer 5 []

-- refusal 1 of what is left
abbrev pub rest_as : Result Unit Cut → Option Answer
rest_as (Ok x) = none
rest_as (Err c) = some (cut_answer c)

-- what is left from a position on, as if nothing was met before it: where a part is cut goes by lengths alone
abbrev pub cut_from : List Row → ℕ → ℕ → List ℕ → Option Answer
cut_from t start at part = cut_of (parted_f t start false (length (drop at part)) nothing_met at (drop at part))

-- the answer, by where the first offender stands: accepted where there is none, else refusal 1 of what is left, or 29
abbrev pub stopped_in : List Row → ℕ → List ℕ → Answered ℕ → Answer
stopped_in t start part None = answer 0 []
stopped_in t start part (Some at) = unless (cut_from t start at part) (λ a. a) (answer 29 (at ∷ []))

-- how many octets an element has, by its place if it has one
abbrev pub len_of : Result Came CutShort → Result ℕ CutShort
len_of (Ok c) = Ok c.len
len_of (Err e) = Err e

abbrev pub len_by : List ℕ → Answered ℕ → ℕ → ℕ → List ℕ → Result ℕ CutShort
len_by table None x start left = len_of (came_strange x (missing start left) left (unknown_length start left))
len_by table (Some k) x start left = Ok (fit_of (row_said (numbers_at table k)) left).len

-- a table that passes, its index, and a part within the limit
pub record Ready (table index part : List ℕ) : Type 0 where
  pub passes : first_bad (rows_of table) ≡ none
  pub indexed : Indexed table index
  pub short : length part ≤ most_octets
