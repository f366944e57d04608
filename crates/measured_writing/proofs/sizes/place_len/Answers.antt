-- `place_len` is the length of the place's element.
-- Of an absent place it is 0; else what its form and the value take.
use native.Mathlib.Omega.{arith}
use mathlib.Core.Path.{ap, sym}
use lib.ListN.{length}
use Rattle.values.specs.Rows.{value_of}
use Rattle.measured_writing.specs.Sizes.{place_length}
use Rattle.measured_writing.proofs.Places.{form-there, octets-short, absent, length-there}
use Rattle.measured_writing.proofs.sizes.place_len.Goals as goal

pub returns-then-row-eq0 : goal.returns-then-row-eq0
unfolding place_length
returns-then-row-eq0 c = (ap length (sym (absent c.args.table.now c.args.rows.now c.args.received.now c.args.set.now c.args.place c.row_at-row.result c.row_at-row.ensures c.if-row-eq0.true 0)), omega arith)

pub ie_len-requires : goal.ie_len-requires
ie_len-requires c = let l = octets-short c.args.received.now c.args.set.now c.requires.1 c.requires.2 (value_of c.row_at-row.result) in rw c.value_octets-value.ensures.result_value (omega arith)

pub returns : goal.returns
returns c = length-there c.args.table.now c.args.rows.now c.args.received.now c.args.set.now c.args.place c.row_at-row.result c.row_at-row.ensures c.if-row-eq0.false c.requires.1 c.requires.2 c.ie_len.ensures (form-there c.args.table.now c.args.place c.requires.0 c.numbers_at-n.ensures c.form_of.ensures) c.value_octets-value.ensures.result_value
