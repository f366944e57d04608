-- `look` judges the row, then the value, then takes the element's length.
-- An absent place fits and takes nothing; of another the form and the value decide.
use native.Mathlib.Omega.{arith}
use mathlib.Core.Path.{◌≡◌, ap, sym, ◌∙◌}
use mathlib.Core.Bool.{not}
use Rattle.definitions.specs.Values.{unfit_at}
use Rattle.values.specs.Rows.{value_of, sources_of}
use Rattle.definitions.specs.Rows.{rows_of}
use Rattle.measured_writing.proofs.Places.{form-there, octets-short, not-present, is-present, unfit-there, length-there}
use Rattle.measured_writing.proofs.sizes.look.Goals as goal

pub is_wrong-requires : goal.is_wrong-requires
is_wrong-requires c = c.requires.0

pub returns-then-is_wrong : goal.returns-then-is_wrong
returns-then-is_wrong c = sym c.is_wrong.ensures ∙ c.if-is_wrong.true

pub returns-then-row-eq0 : goal.returns-then-row-eq0
returns-then-row-eq0 c = (sym c.is_wrong.ensures ∙ c.if-is_wrong.false, not-present c.args.table.now c.args.rows.now c.args.received.now c.args.set.now c.args.place c.row_at-row.result c.row_at-row.ensures c.if-row-eq0.true)

pub returns-then-not-does_fit : goal.returns-then-not-does_fit
returns-then-not-does_fit c =
    let unfit : unfit_at (rows_of c.args.table.now) (sources_of c.args.received.now c.args.set.now) c.args.rows.now c.args.place ≡ not c.does_fit.result = unfit-there c.args.table.now c.args.rows.now c.args.received.now c.args.set.now c.args.place c.row_at-row.result c.row_at-row.ensures c.if-row-eq0.false ∙ ap not (sym (rw (form-there c.args.table.now c.args.place c.requires.0 c.numbers_at-n.ensures c.form_of-form.ensures, c.value_octets-value.ensures.result_value) at c.does_fit.ensures)) in
    (sym c.is_wrong.ensures ∙ c.if-is_wrong.false, unfit ∙ ap not c.if-not-does_fit.true)

pub ie_len-requires : goal.ie_len-requires
ie_len-requires c = let l = octets-short c.args.received.now c.args.set.now c.requires.1 c.requires.2 (value_of c.row_at-row.result) in rw c.value_octets-value.ensures.result_value (omega arith)

pub returns : goal.returns
returns c =
    let unfit : unfit_at (rows_of c.args.table.now) (sources_of c.args.received.now c.args.set.now) c.args.rows.now c.args.place ≡ not c.does_fit.result = unfit-there c.args.table.now c.args.rows.now c.args.received.now c.args.set.now c.args.place c.row_at-row.result c.row_at-row.ensures c.if-row-eq0.false ∙ ap not (sym (rw (form-there c.args.table.now c.args.place c.requires.0 c.numbers_at-n.ensures c.form_of-form.ensures, c.value_octets-value.ensures.result_value) at c.does_fit.ensures)) in
    let l = length-there c.args.table.now c.args.rows.now c.args.received.now c.args.set.now c.args.place c.row_at-row.result c.row_at-row.ensures c.if-row-eq0.false c.requires.1 c.requires.2 c.ie_len.ensures (form-there c.args.table.now c.args.place c.requires.0 c.numbers_at-n.ensures c.form_of-form.ensures) c.value_octets-value.ensures.result_value in
    (sym c.is_wrong.ensures ∙ c.if-is_wrong.false, unfit ∙ ap not c.if-not-does_fit.false, is-present c.args.table.now c.args.rows.now c.args.received.now c.args.set.now c.args.place c.row_at-row.result c.row_at-row.ensures c.if-row-eq0.false, l.0, l.1)
