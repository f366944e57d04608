-- `put_first` writes nothing of a place that is not in the set, or is absent, and of another its element under the first IEI.
-- As `put_place` does, by the set.
use Prim.Native.Nat.{◌%◌}
use native.Mathlib.Omega.{arith}
use mathlib.Core.Path.{ap, sym, ◌∙◌}
use Rattle.rows.specs.declared.columns.Numbers.{Numbers}
use Rattle.seen.specs.Seen.{set_of}
use Rattle.placing.specs.Pieces.{lent_of}
use Rattle.walking.proofs.Laying.{lays-empty, lays-inside, lays-long}
use Rattle.walking.proofs.Elements.{element-absent, element-put}
use Rattle.walking.proofs.Runs.{piece_added, piece-not}
use Rattle.walking.proofs.put_first.Goals as goal

pub returns-then-not-has : goal.returns-then-not-has
returns-then-not-has c = let a = c.args in rw (piece-not (lent_of a.table.now a.rows.now a.received.now a.set.now) (set_of a.added) a.place (sym c.has.ensures ∙ c.if-not-has.true)) lays-empty

pub returns-then-row-eq0 : goal.returns-then-row-eq0
returns-then-row-eq0 c = let a = c.args in rw (piece_added (lent_of a.table.now a.rows.now a.received.now a.set.now) (set_of a.added) a.place (sym c.has.ensures ∙ c.if-not-has.false), element-absent a.table.now a.rows.now a.received.now a.set.now a.place _ c.row_at-row.result c.row_at-row.ensures c.if-row-eq0.true) lays-empty

pub overflow_add-result : goal.overflow_add-result
overflow_add-result c =
    let a = c.args in
    let p = element-put a.table.now a.rows.now a.received.now a.set.now a.place (c.numbers_at-n.result.first % 256) c.row_at-row.result c.row_at-row.ensures c.if-row-eq0.false c.numbers_at-n.ensures c.form_of-form.ensures c.value_octets-value.ensures.result_value a.at a.output.now c.requires c.put_ie-took.ensures in
    omega (arith, c.well_formed, lays-inside p c.requires, lays-long p c.requires, c.unwrap_or.ensures)

-- the element, put
pub returns : goal.returns
returns c =
    let a = c.args in
    let e = ap (λ (n : Numbers). n.first % 256) c.numbers_at-n.ensures in
    rw (piece_added (lent_of a.table.now a.rows.now a.received.now a.set.now) (set_of a.added) a.place (sym c.has.ensures ∙ c.if-not-has.false), ← e, c.unwrap_or.ensures) (element-put a.table.now a.rows.now a.received.now a.set.now a.place (c.numbers_at-n.result.first % 256) c.row_at-row.result c.row_at-row.ensures c.if-row-eq0.false c.numbers_at-n.ensures c.form_of-form.ensures c.value_octets-value.ensures.result_value a.at a.output.now c.requires c.put_ie-took.ensures)
