-- Each answer by the definition of what stands at the position: a value with the cursor behind it, or None with nothing read.
use Rattle.std.specs.Prelude.{ℕ, ◌+◌, List, [], Option as Answered, Some, None}
use Rattle.std.proofs.Math.Option.{Option, none, some}
use Rattle.octets.specs.declared.Cursor.{Cursor}
use Rattle.octets.specs.declared.Run.{Run}

-- a run of n octets from a position on
abbrev pub run_of : ℕ → ℕ → Option (List ℕ) → Answered Run
run_of at n none = None
run_of at n (some s) = Some (record { start = at; len = n; next = record { at = at + n } })

-- the cursor behind a run
abbrev pub moved_of : Answered Run → Answered Cursor
moved_of None = None
moved_of (Some r) = Some r.next

-- a number of so many octets
abbrev pub number_of : ℕ → ℕ → Option ℕ → Answered (ℕ × Cursor)
number_of width at none = None
number_of width at (some x) = Some (x, record { at = at + width })

-- the octets of a run; none of one that is short
abbrev pub octets_of : Option (List ℕ) → List ℕ
octets_of none = []
octets_of (some s) = s
