-- `first_misfit` looks at a row a turn, up to one that does not fit.
-- The invariant is the law of the rows before.
use mathlib.Core.Bool.{not}
use Rattle.definitions.specs.Mandatory.{mandatory_rows_of}
use Rattle.values.specs.Rows.{sources_of}
use Rattle.mandatory_writing.specs.Writes.{fits_at}
use Rattle.mandatory_writing.proofs.Searching.{Searching}
use Rattle.mandatory_writing.proofs.encode.first_misfit.Given as goal

abbrev pub invariant-loop-k : goal.invariant-loop-k
invariant-loop-k l = Searching (λ j. not (fits_at (mandatory_rows_of l.table) (sources_of l.received l.set) l.rows j)) l.n l.k
