-- Reading mandatory rows through the C interface: the notes stand in 64 lent numbers, and the values tell how many there are.
use Rattle.std.specs.Prelude.{ℕ, min, zero, suc, ◌≡◌, List, [], ◌∷◌, ◌++◌, get_or, Result, Ok, Err}
use Rattle.definitions.specs.Basic.{Answer, answer}
use Rattle.definitions.specs.Mandatory.{RowsRead}
use Rattle.mandatory.specs.Notes.{note}
use Rattle.mandatory.specs.declared.notes.Note.{Note}
use Rattle.mandatory.specs.declared.notes.Notes.{Notes}
use Rattle.mandatory.specs.declared.decode.MandatoryError.{MandatoryError}
use Rattle.mandatory.specs.declared.decode.MandatoryRead.{MandatoryRead}
use Rattle.answers.specs.Says.{put, Says}

-- ---- by the definition's answer

-- numbers that are notes, two each: how many notes
unfoldable pub notes_count : List ℕ → ℕ
notes_count [] = 0
notes_count (k ∷ []) = 0
notes_count (k ∷ number ∷ s) = suc (notes_count s)

-- behind the first value of an answer
abbrev pub behind_first : List ℕ → List ℕ
behind_first [] = []
behind_first (v ∷ s) = s

abbrev pub counting : List ℕ → List ℕ
counting [] = []
counting (v ∷ s) = v ∷ notes_count s ∷ []

-- done, 0, and a refusal by a row, 6 to 9, have one value and then the notes; a refusal before the rows has none
abbrev pub by_number : {A : Type 0} → ℕ → A → A → A
by_number zero noted bare = noted
by_number (suc zero) noted bare = bare
by_number (suc (suc zero)) noted bare = bare
by_number (suc (suc (suc zero))) noted bare = bare
by_number (suc (suc (suc (suc zero)))) noted bare = bare
by_number (suc (suc (suc (suc (suc zero))))) noted bare = bare
by_number (suc (suc (suc (suc (suc (suc n)))))) noted bare = noted

-- the answer with how many notes there are in place of the notes
unfoldable pub briefly : Answer → Answer
briefly a = answer a.number (by_number a.number (counting a.values) a.values)

unfoldable pub notes_in : Answer → List ℕ
notes_in a = by_number a.number (behind_first a.values) []

-- an answer, and lent memory afterwards, are those of a reading of mandatory rows
pub record MandatorySays (d : RowsRead) (number : ℕ) (before after lent left rows : List ℕ) : Type 0 where
  pub says : Says (briefly d.said) number before after
  pub notes-are : left ≡ put (notes_in d.said) lent
  pub rows_are : rows ≡ d.rows

-- ---- by the answer in code

-- notes that are used; there are no more than 32
abbrev pub used_notes : ℕ → ℕ
used_notes count = min count 32

-- row and number of each of the first n notes. How long an array is no contract tells, so a note is named by its index
unfoldable pub first_notes : ℕ → List Note → List ℕ
first_notes zero l = []
first_notes (suc n) l = first_notes n l ++ ((get_or l n (note 0 0)).row ∷ (get_or l n (note 0 0)).number ∷ [])

abbrev pub notes_put : Notes → List ℕ
notes_put n = first_notes (used_notes n.count) n.notes

abbrev pub brief_as : Result ℕ MandatoryError → ℕ → Answer
brief_as (Ok n) notes = answer 0 (n ∷ notes ∷ [])
brief_as (Err MandatoryError.NoRoom) notes = answer 2 (1 ∷ [])
brief_as (Err MandatoryError.TooLong) notes = answer 3 []
brief_as (Err (MandatoryError.BadTable k)) notes = answer 4 (k ∷ [])
brief_as (Err MandatoryError.NoTable) notes = answer 5 []
brief_as (Err (MandatoryError.Missing k)) notes = answer 6 (k ∷ notes ∷ [])
brief_as (Err (MandatoryError.Truncated k)) notes = answer 7 (k ∷ notes ∷ [])
brief_as (Err (MandatoryError.TooShort k)) notes = answer 8 (k ∷ notes ∷ [])
brief_as (Err (MandatoryError.Syntax k)) notes = answer 9 (k ∷ notes ∷ [])

-- whatever the answer, the notes that are used are put
pub record MandatedSays (r : MandatoryRead) (number : ℕ) (before after lent left : List ℕ) : Type 0 where
  pub says : Says (brief_as r.answer (used_notes r.notes.count)) number before after
  pub notes-are : left ≡ put (notes_put r.notes) lent
