-- `row_size` is the size of a row.
-- Its form and octets are those of the definitions.
use Prim.Native.Nat.{ℕ}
use mathlib.Core.Path.{◌≡◌, ap, ap₂, ◌∙◌}
use mathlib.Core.List.{List}
use lib.ListN.{length}
use Rattle.definitions.specs.Mandatory.{MandatoryForm, mandatory_rows_of, mandatory_row_at}
use Rattle.definitions.specs.Values.{mandatory_width, value_in, octets_at}
use Rattle.values.specs.Rows.{sources_of}
use Rattle.mandatory_writing.specs.Writes.{encoded_size, size_at}
use Rattle.mandatory_writing.proofs.Sizing.{value-short, size-short}
use Rattle.mandatory_writing.proofs.encode.row_size.Goals as goal
use Rattle.mandatory_writing.proofs.encode.row_size.Goals.{After-encoded_size}

pub encoded_size-requires : goal.encoded_size-requires
encoded_size-requires c = rw (c.value_octets-value.ensures.result_value ∙ ap (octets_at (sources_of c.args.received.now c.args.set.now)) c.mandatory_row_at-row.ensures) (value-short c.args.received.now c.args.set.now (value_in mandatory_width c.args.rows.now c.args.k) c.requires)

sized : (c : After-encoded_size) → c.encoded_size.result ≡ size_at (mandatory_row_at (mandatory_rows_of c.args.table.now) c.args.k) (sources_of c.args.received.now c.args.set.now) c.args.rows.now c.args.k
unfolding size_at
sized c = c.encoded_size.ensures ∙ ap₂ (λ (f : MandatoryForm) (s : List ℕ). encoded_size f (length s)) c.mandatory_form_at.ensures (c.value_octets-value.ensures.result_value ∙ ap (octets_at (sources_of c.args.received.now c.args.set.now)) c.mandatory_row_at-row.ensures)

pub returns : goal.returns
returns c = let e = sized (goal.at.returns c).After-encoded_size in (e, rw e (size-short c.args.received.now c.args.set.now c.args.rows.now (mandatory_row_at (mandatory_rows_of c.args.table.now) c.args.k) c.args.k c.requires))
