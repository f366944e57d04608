-- `judge` takes the checks in document 01's order: those that need no reading, then what is measured decides which refuses.
-- Where none does, the part can be entered.
use native.Mathlib.Omega.{arith}
use mathlib.Core.Path.{sym, ◌∙◌}
use Rattle.std.proofs.lemmas.Result.{err_from_is_err_and}
use Rattle.filling.specs.Noted.{Judged}
use Rattle.filling.proofs.Noting.{needed, cut-is, long, no_rows, cut_short_lem, no-kept, no-order, allowed}
use Rattle.filling.proofs.judge.Goals as goal

pub returns-then-octets-gt-MOST_OCTETS : goal.returns-then-octets-gt-MOST_OCTETS
unfolding Judged
returns-then-octets-gt-MOST_OCTETS c = λ l e f g. let a = c.args in long a.table.now a.index.now a.tlve_start a.option a.octets.now l.rows l.kept l.order (omega arith)

pub returns-then-rows-places : goal.returns-then-rows-places
unfolding Judged
returns-then-rows-places c = λ l e f g. let a = c.args in no_rows a.table.now a.index.now a.tlve_start a.option a.octets.now l.rows l.kept l.order (omega arith) (omega (arith, e, c.places.ensures))

pub returns-in_err-needs : goal.returns-in_err-needs
unfolding Judged
returns-in_err-needs c = λ l e f g.
    let a = c.args in
    let p = err_from_is_err_and c.from_residual.result c.from_residual.ensures.1 in
    rw (p.1, p.2) (cut_short_lem a.table.now a.index.now a.tlve_start a.option a.octets.now l.rows l.kept l.order (omega arith) (omega (arith, e, c.places.ensures)) (cut-is _ (sym c.in_err-needs.was ∙ c.measure.ensures.by_index)))

pub returns-then-kept-needs : goal.returns-then-kept-needs
unfolding Judged
returns-then-kept-needs c = λ l e f g. let a = c.args in no-kept a.table.now a.index.now a.tlve_start a.option a.octets.now l.rows l.kept l.order (omega arith) (omega (arith, e, c.places.ensures)) c.in_ok-needs.needs (needed _ (sym c.in_ok-needs.was ∙ c.measure.ensures.by_index)) (omega (arith, f))

pub returns-then-order-needs : goal.returns-then-order-needs
unfolding Judged
returns-then-order-needs c = λ l e f g. let a = c.args in no-order a.table.now a.index.now a.tlve_start a.option a.octets.now l.rows l.kept l.order (omega arith) (omega (arith, e, c.places.ensures)) c.in_ok-needs.needs (needed _ (sym c.in_ok-needs.was ∙ c.measure.ensures.by_index)) (omega (arith, f)) (omega (arith, g))

pub returns : goal.returns
unfolding Judged
returns c = λ l e f g. let a = c.args in allowed a.table.now a.index.now a.tlve_start a.option a.octets.now l.rows l.kept l.order (omega arith) (omega (arith, e, c.places.ensures)) c.in_ok-needs.needs (needed _ (sym c.in_ok-needs.was ∙ c.measure.ensures.by_index)) (omega (arith, f)) (omega (arith, g))
