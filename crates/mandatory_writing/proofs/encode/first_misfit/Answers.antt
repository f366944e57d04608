-- `first_misfit` looks at a row a turn, up to one that does not fit.
-- Each turn is a row more.
use native.Mathlib.Omega.{arith}
use mathlib.Core.Path.{ap, sym, ◌∙◌}
use mathlib.Core.Bool.{not}
use Rattle.definitions.specs.Mandatory.{mandatory_rows_of}
use Rattle.values.specs.Rows.{sources_of}
use Rattle.mandatory_writing.specs.Writes.{fits_at}
use Rattle.mandatory_writing.proofs.Searching.{searching, found_here, found-not, found_nowhere}
use Rattle.mandatory_writing.proofs.encode.first_misfit.Goals as goal

pub loop-k-init : goal.loop-k-init
loop-k-init c = searching (λ j. not (fits_at (mandatory_rows_of c.args.table.now) (sources_of c.args.received.now c.args.set.now) c.args.rows.now j)) c.args.n

pub returns-then-not-row_fits : goal.returns-then-not-row_fits
returns-then-not-row_fits c = sym (found_here (λ j. not (fits_at (mandatory_rows_of c.args.table.now) (sources_of c.args.received.now c.args.set.now) c.args.rows.now j)) c.args.n c.loop-k.k c.loop-k.invariant (omega arith) (ap not (sym c.row_fits.ensures ∙ c.if-not-row_fits.true)))

pub loop-k-preserved : goal.loop-k-preserved
loop-k-preserved c = found-not (λ j. not (fits_at (mandatory_rows_of c.args.table.now) (sources_of c.args.received.now c.args.set.now) c.args.rows.now j)) c.args.n c.loop-k.k c.loop-k.invariant (omega arith) (ap not (sym c.row_fits.ensures ∙ c.if-not-row_fits.false))

pub returns : goal.returns
returns c = sym (found_nowhere (λ j. not (fits_at (mandatory_rows_of c.args.table.now) (sources_of c.args.received.now c.args.set.now) c.args.rows.now j)) c.args.n c.loop-k.k c.loop-k.invariant (omega arith))
