-- What reading needs of a number's table: its index is its own, it passes its check, and where no table is named there is none.
-- From the equation of the table.
use Prim.Native.Nat.{ℕ}
use mathlib.Core.Path.{◌≡◌, refl}
use mathlib.Core.Option.{none}
use Rattle.std.specs.Prelude.{Option as Answered, Some, None}
use Rattle.definitions.specs.Rows.{rows_of, first_bad}
use Rattle.definitions.specs.Tables.{table_of}
use Rattle.rows.specs.Indexed.{Indexed}
use Rattle.rows.proofs.Indexed.{indexed}
use Rattle.real.specs.Numbered.{IsNumbered}
use Rattle.real.specs.declared.Table.{Table}
use Rattle.real.proofs.RealLaws.{passes_of}

pub own-index : (n : ℕ) (t : Table) → IsNumbered n (Some t) → Indexed t.rows.now t.index.now × (first_bad (rows_of t.rows.now) ≡ none)
own-index n t h = let p : first_bad (rows_of t.rows.now) ≡ none = passes_of n h.0 in (indexed t.rows.now t.index.now p h.1, p)

pub not-numbered : (n : ℕ) (o : Answered Table) → ((t : Table) → o ≡ Some t → ⊥) → IsNumbered n o → table_of n ≡ none
not-numbered n None h i = i
not-numbered n (Some t) h i = absurd (h t refl)
