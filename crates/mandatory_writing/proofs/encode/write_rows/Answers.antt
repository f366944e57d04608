-- `write_rows` lends the rest of the output for a row a turn.
-- Each turn is a row more.
use Prim.Native.Nat.{ℕ}
use native.Mathlib.Omega.{arith}
use mathlib.Core.Path.{◌≡◌, ap, ap₂, sym, ◌∙◌}
use mathlib.Core.List.{List}
use lib.ListN.{length, get_or, length-take, length-drop}
use Rattle.definitions.specs.Mandatory.{MandatoryForm, mandatory_rows_of, mandatory_row_at, mandatory_form, low_bits, encoded_row}
use Rattle.definitions.specs.Values.{Value, mandatory_width, value_in, octets_at}
use Rattle.definitions.proofs.Lists.{lent-over}
use Rattle.rows.specs.Forms.{mandatory_form_as}
use Rattle.values.specs.Rows.{sources_of}
use Rattle.mandatory_writing.specs.Writes.{encoded_size}
use Rattle.mandatory_writing.proofs.Encoding.{encoded-size}
use Rattle.mandatory_writing.proofs.Sizing.{value-short}
use Rattle.mandatory_writing.proofs.Laying.{fits-here, laying, laid-all, row_room, laid_one, row_is, fits-is}
use Rattle.mandatory_writing.proofs.encode.write_rows.Goals as goal
use Rattle.mandatory_writing.proofs.encode.write_rows.Goals.{After-encoded_size-at, After-put_row-arg-1}

pub loop-k-init : goal.loop-k-init
loop-k-init c = laying (mandatory_rows_of c.args.table.now) (sources_of c.args.received.now c.args.set.now) c.args.rows.now c.args.output.now c.requires.room

pub slice_bounds-put_row-count : goal.slice_bounds-put_row-count
slice_bounds-put_row-count c = omega (arith, c.loop-k.invariant.room)

pub slice_bounds-put_row-start : goal.slice_bounds-put_row-start
slice_bounds-put_row-start c = omega (arith, c.loop-k.invariant.room)

-- the row that is written is the definition's
row_here : (c : After-put_row-arg-1) → encoded_row (mandatory_form_as c.mandatory_form_at-form.result) c.loop-k.low c.mandatory_row_at-row.result.source c.value_octets-value.result.now ≡ (encoded_row (mandatory_form (mandatory_row_at (mandatory_rows_of c.args.table.now) c.loop-k.k)) c.loop-k.low (value_in mandatory_width c.args.rows.now c.loop-k.k).source (octets_at (sources_of c.args.received.now c.args.set.now) (value_in mandatory_width c.args.rows.now c.loop-k.k)))
row_here c = row_is c.loop-k.low c.mandatory_form_at-form.ensures (ap (λ (v : Value). v.source) c.mandatory_row_at-row.ensures) (c.value_octets-value.ensures.result_value ∙ ap (octets_at (sources_of c.args.received.now c.args.set.now)) c.mandatory_row_at-row.ensures)

pub put_row-requires : goal.put_row-requires
put_row-requires c = (
  fits-is c.mandatory_form_at-form.ensures (ap (λ (v : Value). v.source) c.mandatory_row_at-row.ensures) (c.value_octets-value.ensures.result_value ∙ ap (octets_at (sources_of c.args.received.now c.args.set.now)) c.mandatory_row_at-row.ensures) ∙ fits-here (mandatory_rows_of c.args.table.now) (sources_of c.args.received.now c.args.set.now) c.args.rows.now c.requires.fit c.loop-k.k (omega (arith, c.mandatory_rows-k-end.ensures)),
  rw (row_here (goal.at.put_row-requires c).After-put_row-arg-1) (simp (length-take, length-drop) (omega (arith, row_room (mandatory_rows_of c.args.table.now) (sources_of c.args.received.now c.args.set.now) c.args.rows.now c.args.output.now c.loop-k.k c.loop-k.at c.loop-k.low c.loop-k.output c.loop-k.invariant (omega (arith, c.mandatory_rows-k-end.ensures))))),
  c.loop-k.invariant.half,
)

pub encoded_size-at-requires : goal.encoded_size-at-requires
encoded_size-at-requires c = rw (c.value_octets-value.ensures.result_value ∙ ap (octets_at (sources_of c.args.received.now c.args.set.now)) c.mandatory_row_at-row.ensures) (value-short c.args.received.now c.args.set.now (value_in mandatory_width c.args.rows.now c.loop-k.k) c.requires.short)

-- how many octets it has
size-here : (c : After-encoded_size-at) → c.encoded_size-at.result ≡ length (encoded_row (mandatory_form (mandatory_row_at (mandatory_rows_of c.args.table.now) c.loop-k.k)) c.loop-k.low (value_in mandatory_width c.args.rows.now c.loop-k.k).source (octets_at (sources_of c.args.received.now c.args.set.now) (value_in mandatory_width c.args.rows.now c.loop-k.k)))
size-here c = c.encoded_size-at.ensures ∙ ap₂ (λ (f : MandatoryForm) (s : List ℕ). encoded_size f (length s)) c.mandatory_form_at-form.ensures (c.value_octets-value.ensures.result_value ∙ ap (octets_at (sources_of c.args.received.now c.args.set.now)) c.mandatory_row_at-row.ensures) ∙ sym (encoded-size (mandatory_form (mandatory_row_at (mandatory_rows_of c.args.table.now) c.loop-k.k)) c.loop-k.low (value_in mandatory_width c.args.rows.now c.loop-k.k).source (octets_at (sources_of c.args.received.now c.args.set.now) (value_in mandatory_width c.args.rows.now c.loop-k.k)))

pub overflow_add-at : goal.overflow_add-at
overflow_add-at c = omega (arith, size-here (goal.at.overflow_add-at c).After-encoded_size-at, row_room (mandatory_rows_of c.args.table.now) (sources_of c.args.received.now c.args.set.now) c.args.rows.now c.args.output.now c.loop-k.k c.loop-k.at c.loop-k.low c.loop-k.output c.loop-k.invariant (omega (arith, c.mandatory_rows-k-end.ensures)))

pub loop-k-preserved : goal.loop-k-preserved
loop-k-preserved c =
    let q = row_room (mandatory_rows_of c.args.table.now) (sources_of c.args.received.now c.args.set.now) c.args.rows.now c.args.output.now c.loop-k.k c.loop-k.at c.loop-k.low c.loop-k.output c.loop-k.invariant (omega (arith, c.mandatory_rows-k-end.ensures)) in
    rw (size-here (goal.at.loop-k-preserved c).After-encoded_size-at)
    (laid_one (mandatory_rows_of c.args.table.now) (sources_of c.args.received.now c.args.set.now) c.args.rows.now c.args.output.now c.loop-k.k c.loop-k.at c.loop-k.low c.loop-k.output c.loop-k.invariant (omega (arith, c.mandatory_rows-k-end.ensures)) (rw (c.put_row.ensures, row_here (goal.at.loop-k-preserved c).After-put_row-arg-1) (lent-over c.loop-k.at (encoded_row (mandatory_form (mandatory_row_at (mandatory_rows_of c.args.table.now) c.loop-k.k)) c.loop-k.low (value_in mandatory_width c.args.rows.now c.loop-k.k).source (octets_at (sources_of c.args.received.now c.args.set.now) (value_in mandatory_width c.args.rows.now c.loop-k.k))) c.loop-k.output (omega arith))) (c.low_bits-low.ensures.0 ∙ ap (λ (s : List ℕ). low_bits (get_or s 0 0)) (c.value_octets-value.ensures.result_value ∙ ap (octets_at (sources_of c.args.received.now c.args.set.now)) c.mandatory_row_at-row.ensures)) c.low_bits-low.ensures.1)

pub shape_of-output : goal.shape_of-output
shape_of-output c = c.loop-k.invariant.size

pub returns : goal.returns
returns c = laid-all (mandatory_rows_of c.args.table.now) (sources_of c.args.received.now c.args.set.now) c.args.rows.now c.args.output.now c.loop-k.k c.loop-k.at c.loop-k.low c.loop-k.output c.loop-k.invariant (omega (arith, c.mandatory_rows-k-end.ensures))
