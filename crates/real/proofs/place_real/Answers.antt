-- `place_real` is the place that the index of a numbered table has; a number with no table has no row.
-- The index of a table that passes its check has each IEI's place.
use mathlib.Core.Path.{refl, ◌∙◌}
use native.Mathlib.Omega.{arith}
use Rattle.definitions.specs.Rows.{row_of, rows_f, rows_of, place_from, place_of}
use Rattle.real.proofs.Numbers.{place-by-index, no-rows}
use Rattle.real.proofs.place_real.Goals as goal

pub returns-in_err-table : goal.returns-in_err-table
unfolding rows_f rows_of place_from place_of
returns-in_err-table c = rw (c.from_residual.ensures, ← c.small.ensures.same_rows, no-rows c.small.result c.in_err-table.ensures) refl

pub returns : goal.returns
returns c = rw (← c.small.ensures.same_rows) (c.place_of.ensures ∙ place-by-index c.small.result c.args.iei c.in_ok-table.table c.in_ok-table.ensures (omega arith))
