-- `put_place` lends the rest of the output for the element of a present place.
-- It is what its row says, in its form; where it cannot be written or has no room nothing is put.
use native.Mathlib.Omega.{arith}
use Rattle.walking.proofs.Laying.{lays-empty, lays-inside, lays-long}
use Rattle.walking.proofs.Elements.{element-absent, element-put}
use Rattle.walking.proofs.put_place.Goals as goal

pub returns-then-row-eq0 : goal.returns-then-row-eq0
returns-then-row-eq0 c = let a = c.args in rw (element-absent a.table.now a.rows.now a.received.now a.set.now a.place a.iei c.row_at-row.result c.row_at-row.ensures c.if-row-eq0.true) lays-empty

pub overflow_add-result : goal.overflow_add-result
overflow_add-result c =
    let a = c.args in
    let p = element-put a.table.now a.rows.now a.received.now a.set.now a.place a.iei c.row_at-row.result c.row_at-row.ensures c.if-row-eq0.false c.numbers_at-n.ensures c.form_of-form.ensures c.value_octets-value.ensures.result_value a.at a.output.now c.requires c.put_ie-took.ensures in
    omega (arith, c.well_formed, lays-inside p c.requires, lays-long p c.requires, c.unwrap_or.ensures)

-- the element, put
pub returns : goal.returns
returns c =
    let a = c.args in
    rw c.unwrap_or.ensures (element-put a.table.now a.rows.now a.received.now a.set.now a.place a.iei c.row_at-row.result c.row_at-row.ensures c.if-row-eq0.false c.numbers_at-n.ensures c.form_of-form.ensures c.value_octets-value.ensures.result_value a.at a.output.now c.requires c.put_ie-took.ensures)
