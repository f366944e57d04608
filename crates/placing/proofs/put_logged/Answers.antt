-- `put_logged` judges the row of a place and puts its element under a logged IEI.
-- Each answer by the tests that led to it; past the end nothing is put.
use native.Mathlib.Omega.{arith}
use mathlib.Core.Path.{sym, ◌∙◌}
use Rattle.placing.specs.Pieces.{lent_of, piece_by}
use Rattle.placing.proofs.Pieces.{put-not, past-not}
use Rattle.placing.proofs.Judging.{Took, piece-bad, piece-absent, piece-unlike, piece-took}
use Rattle.placing.proofs.put_logged.Goals as goal
use Rattle.placing.proofs.put_logged.Goals.{After-put_ie}

pub returns-then-at-out : goal.returns-then-at-out
returns-then-at-out c = put-not (past-not _ _ _ c.if-at-out.true)

pub returns-then-not-is_good : goal.returns-then-not-is_good
returns-then-not-is_good c = let a = c.args in piece-bad a.table.now a.rows.now a.received.now a.set.now a.place a.iei c.row_at-row.result c.row_at-row.ensures (sym c.is_good.ensures ∙ c.if-not-is_good.true)

pub returns-then-row-eq0 : goal.returns-then-row-eq0
returns-then-row-eq0 c = let a = c.args in piece-absent a.table.now a.rows.now a.received.now a.set.now a.place a.iei c.row_at-row.result c.row_at-row.ensures (sym c.is_good.ensures ∙ c.if-not-is_good.false) c.if-row-eq0.true (omega (arith, c.if-at-out.false))

pub returns-then-is_unlike : goal.returns-then-is_unlike
returns-then-is_unlike c = let a = c.args in piece-unlike a.table.now a.rows.now a.received.now a.set.now a.place a.iei c.row_at-row.result c.row_at-row.ensures (sym c.is_good.ensures ∙ c.if-not-is_good.false) c.if-row-eq0.false cc

took : (c : After-put_ie) → let a = c.args in Took (piece_by (lent_of a.table.now a.rows.now a.received.now a.set.now) a.place a.iei) a.at a.out.now c.put_ie.result c.put_ie.new.out
took c =
    let a = c.args in
    piece-took a.table.now a.rows.now a.received.now a.set.now a.place a.iei c.row_at-row.result c.row_at-row.ensures (sym c.is_good.ensures ∙ c.if-not-is_good.false) c.if-row-eq0.false (cc) (omega (arith, c.ranges.iei)) c.numbers_at-n.ensures c.form_of-form.ensures c.value_octets-value.ensures.result_value a.at a.out.now (omega (arith, c.if-at-out.false)) c.put_ie.ensures

pub returns-in_err-took : goal.returns-in_err-took
returns-in_err-took c = rw c.from_residual.ensures ((took (goal.at.returns-in_err-took c).After-put_ie).not_put c.in_err-took.was)

pub overflow_add-result : goal.overflow_add-result
overflow_add-result c = let t = took (goal.at.overflow_add-result c).After-put_ie in omega (arith, c.well_formed, t.inside c.in_ok-took.took c.in_ok-took.was)

pub returns : goal.returns
returns c = (took (goal.at.returns c).After-put_ie).more c.in_ok-took.took c.in_ok-took.was
