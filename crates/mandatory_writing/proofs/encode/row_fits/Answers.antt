-- `row_fits` is the fit of a row's value.
-- Its form, source and octets are those of the definitions.
use mathlib.Core.Path.{ap, ◌∙◌}
use Rattle.definitions.specs.Values.{Value, octets_at}
use Rattle.values.specs.Rows.{sources_of}
use Rattle.mandatory_writing.specs.Writes.{fits_at}
use Rattle.mandatory_writing.proofs.Laying.{fits-is}
use Rattle.mandatory_writing.proofs.encode.row_fits.Goals as goal

pub returns : goal.returns
unfolding fits_at
returns c = c.fits_mandatory.ensures ∙ fits-is c.mandatory_form_at.ensures (ap (λ (v : Value). v.source) c.mandatory_row_at-row.ensures) (c.value_octets.ensures.result_value ∙ ap (octets_at (sources_of c.args.received.now c.args.set.now)) c.mandatory_row_at-row.ensures)
