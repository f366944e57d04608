-- `fill_measured` goes by what is judged before anything is written: a refusal is the answer, and leaves all as it was.
-- Where there is none, the rows are cleared and every element is entered, by the rows that the table and the index say.
use Prim.Native.Nat.{ℕ, ◌*◌}
use native.Mathlib.Omega.{arith}
use mathlib.Core.Path.{refl, ap, ◌∙◌}
use lib.ListN.{replicate}
use Rattle.std.proofs.Common.{rules}
use Rattle.std.proofs.lemmas.Result.{err_from_is_err_and}
use Rattle.definitions.specs.Basic.{over}
use Rattle.definitions.specs.Elements.{elements_of, parted}
use Rattle.by_index.specs.ByIndex.{rows_by}
use Rattle.plain_reading.specs.Entered.{entered_all}
use Rattle.plain_reading.proofs.Copied.{first-cleared}
use Rattle.filling.specs.Decodes.{lent_of}
use Rattle.filling.specs.Noted.{Judged, Allowed}
use Rattle.filling.proofs.Filling.{entered-whole, still-ready}
use Rattle.filling.proofs.Noting.{written}
use Rattle.filling.proofs.fill_measured.Goals as goal

pub returns-in_err-needs : goal.returns-in_err-needs
unfolding Judged
returns-in_err-needs c =
    let a = c.args in
    let p = err_from_is_err_and c.from_residual.result c.from_residual.ensures.1 in
    rw (p.1, p.2) (rw c.in_err-needs.was at (c.judge.ensures (lent_of a.rows.now a.kept.now a.order.now) refl refl refl))

-- else the part decodes, and there is room for it
pub overflow_mul-places : goal.overflow_mul-places
unfolding Judged
overflow_mul-places c =
    let a = c.args in
    let w : Allowed a.table.now a.index.now a.tlve_start a.option a.octets.now (lent_of a.rows.now a.kept.now a.order.now) c.in_ok-needs.needs = rw c.in_ok-needs.was at (c.judge.ensures (lent_of a.rows.now a.kept.now a.order.now) refl refl refl) in
    omega (arith, w.ready.rows-room, c.places.ensures)

pub fill_elements-requires : goal.fill_elements-requires
unfolding Judged
fill_elements-requires c =
    let a = c.args in
    let w : Allowed a.table.now a.index.now a.tlve_start a.option a.octets.now (lent_of a.rows.now a.kept.now a.order.now) c.in_ok-needs.needs = rw c.in_ok-needs.was at (c.judge.ensures (lent_of a.rows.now a.kept.now a.order.now) refl refl refl) in
    still-ready w.ready (search rules)

pub returns : goal.returns
unfolding Judged
returns c =
    let a = c.args in
    let f = c.fill_elements in
    let t = rows_by a.table.now a.index.now in
    let p = parted t a.tlve_start a.option a.octets.now in
    let w : Allowed a.table.now a.index.now a.tlve_start a.option a.octets.now (lent_of a.rows.now a.kept.now a.order.now) c.in_ok-needs.needs = rw c.in_ok-needs.was at (c.judge.ensures (lent_of a.rows.now a.kept.now a.order.now) refl refl refl) in
    let e = (entered-whole t p w.decodes f.result f.ensures).1.1 in
    written a.table.now a.index.now a.tlve_start a.option a.octets.now (lent_of a.rows.now a.kept.now a.order.now) w
    (record { rows_are = e.rows_are ∙ ap (entered_all t (elements_of p)) (first-cleared a.rows.now (4 * c.places.result) (omega (arith, c.places.ensures, w.ready.rows-room)) c.clear_rows.ensures ∙ ap (λ (m : ℕ). over (replicate (4 * m) 0) a.rows.now) c.places.ensures); kept-is = e.kept-is; order_is = e.order_is })
