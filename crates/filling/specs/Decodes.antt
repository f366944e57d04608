-- Reading's answer, and what it leaves in lent memory, by the definition of reading.
use Rattle.std.specs.Prelude.{ℕ, ◌≡◌, List, [], ◌∷◌, Result, Ok, Err}
use Rattle.definitions.specs.Basic.{Answer, answer}
use Rattle.definitions.specs.Reading.{Lent, Read}
use Rattle.elements.specs.Steps.{cut_answer}
use Rattle.filling.specs.declared.Room.{Room}
use Rattle.elements.specs.declared.walk.Tally.{Tally}
use Rattle.filling.specs.declared.DecodeError.{DecodeError}

abbrev pub room_as : Room → ℕ
room_as Room.Rows = 1
room_as Room.Kept = 2
room_as Room.Order = 3

-- what reading answers: the octets used of each log, or a refusal
abbrev pub Decoded : Type 0
Decoded = Result Tally DecodeError

abbrev pub decoded_as : Decoded → Answer
decoded_as (Ok t) = answer 0 (t.kept ∷ t.order ∷ [])
decoded_as (Err (DecodeError.CutShort c)) = cut_answer c
decoded_as (Err (DecodeError.NoRoom which)) = answer 2 (room_as which ∷ [])
decoded_as (Err DecodeError.TooLong) = answer 3 []
decoded_as (Err (DecodeError.BadTable row)) = answer 4 (row ∷ [])
decoded_as (Err DecodeError.NoTable) = answer 5 []

abbrev pub lent_of : List ℕ → List ℕ → List ℕ → Lent
lent_of rows kept order = record { rows = rows; kept = kept; order = order }

-- the answer, and the lent memory at exit, are those of a reading
pub record Reads (r : Read) (d : Decoded) (rows kept order : List ℕ) : Type 0 where
  pub answers : decoded_as d ≡ r.said
  pub rows_are : rows ≡ r.rows
  pub kept-is : kept ≡ r.kept
  pub order_is : order ≡ r.order
