-- Notes: a row and a number each, in a fixed array whose front is used.
use Rattle.std.specs.Prelude.{ℕ, ◌+◌, ◌-◌, ◌≤◌, ◌≡◌, List, [], ◌∷◌, length, take, drop, set, replicate, Option as Answered, Some, None}
use Rattle.mandatory_ie.specs.declared.Fault.{Fault}
use Rattle.mandatory.specs.declared.notes.Note.{Note}
use Rattle.mandatory.specs.declared.notes.Notes.{Notes}

abbrev pub note : ℕ → ℕ → Note
note k number = record { row = k; number = number }

abbrev pub no_notes : Notes
no_notes = record { count = 0; notes = replicate 32 (note 0 0) }

-- the numbers of notes, two each
unfoldable pub flat : List Note → List ℕ
flat [] = []
flat (n ∷ ns) = n.row ∷ n.number ∷ flat ns

-- the numbers of those that are used
unfoldable pub notes_as : Notes → List ℕ
notes_as n = flat (take n.count n.notes)

unfoldable pub with_note : Notes → ℕ → ℕ → Notes
with_note n k number = record { count = n.count + 1; notes = set n.notes n.count (note k number) }

-- a row's fault, noted
abbrev pub with_fault : Notes → ℕ → Answered Fault → Notes
with_fault n k None = n
with_fault n k (Some Fault.TooShort) = with_note n k 8
with_fault n k (Some Fault.Syntax) = with_note n k 9

-- all that is not used is zero
pub record Tidy (n : Notes) : Type 0 where
  pub size : length n.notes ≡ 32
  pub within : n.count ≤ 32
  pub rest : drop n.count n.notes ≡ replicate (32 - n.count) (note 0 0)
