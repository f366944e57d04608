-- Reading by number: by the table that the number names, or refused where there is none.
-- By the definition.
use Prim.Native.Nat.{ℕ}
use mathlib.Core.Path.{◌≡◌}
use mathlib.Core.List.{List, []}
use mathlib.Core.Bool.{Bool}
use mathlib.Core.Option.{none, some}
use Rattle.definitions.specs.Basic.{answer}
use Rattle.definitions.specs.Reading.{Lent, unread, reading, reading_by}
use Rattle.definitions.specs.Tables.{table_of, start_of}

pub by_number : (n : ℕ) {table : List ℕ} (option : Bool) (part : List ℕ) (l : Lent) → table_of n ≡ some table → reading_by n option part l ≡ reading table start_of option part l
unfolding reading_by
by_number n option part l e = rw (e, reading_by)

pub by-none : (n : ℕ) (option : Bool) (part : List ℕ) (l : Lent) → table_of n ≡ none → reading_by n option part l ≡ unread l (answer 5 [])
unfolding reading_by
by-none n option part l e = rw (e, reading_by)
