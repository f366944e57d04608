-- `put_first` judges the row of a place and puts its element under its first IEI.
-- Each answer by the tests that led to it; where `put_ie` puts nothing the buffer is as it was.
use Prim.Native.Nat.{ℕ}
use native.Mathlib.Omega.{arith}
use mathlib.Core.Path.{◌≡◌, refl, ap, sym, ◌∙◌}
use mathlib.Core.Logic.{inl, inr}
use Rattle.rows.specs.Numbers.{numbers_at}
use Rattle.rows.specs.declared.columns.Numbers.{Numbers}
use Rattle.placing.specs.Pieces.{lent_of, piece_by}
use Rattle.placing.proofs.Judging.{Took, piece-bad, piece-absent, piece-unlike, piece-large, piece-took}
use Rattle.placing.proofs.put_first.Goals as goal
use Rattle.placing.proofs.put_first.Goals.{After-numbers_at-n, After-put_ie}

pub returns-then-not-is_good : goal.returns-then-not-is_good
returns-then-not-is_good c =
    let a = c.args in
    record { put_by = piece-bad a.table.now a.rows.now a.received.now a.set.now a.place (numbers_at a.table.now a.place).first c.row_at-row.result c.row_at-row.ensures (sym c.is_good.ensures ∙ c.if-not-is_good.true); out_unchanged = λ q. refl }

pub returns-then-row-eq0 : goal.returns-then-row-eq0
returns-then-row-eq0 c =
    let a = c.args in
    record { put_by = piece-absent a.table.now a.rows.now a.received.now a.set.now a.place (numbers_at a.table.now a.place).first c.row_at-row.result c.row_at-row.ensures (sym c.is_good.ensures ∙ c.if-not-is_good.false) c.if-row-eq0.true c.requires; out_unchanged = λ q. refl }

first : (c : After-numbers_at-n) → c.numbers_at-n.result.first ≡ (numbers_at c.args.table.now c.args.place).first
first c = ap (λ (x : Numbers). x.first) c.numbers_at-n.ensures

-- a row under another IEI, or an IEI that is no octet
pub returns-then-is_unlike : goal.returns-then-is_unlike
returns-then-is_unlike c =
    let a = c.args in
    let good = sym c.is_good.ensures ∙ c.if-not-is_good.false in
    record {
      put_by = rw (sym (first (goal.at.returns-then-is_unlike c).After-numbers_at-n))
          (elim c.then-is_unlike.either [
            | inl p ↦ piece-unlike a.table.now a.rows.now a.received.now a.set.now a.place c.numbers_at-n.result.first c.row_at-row.result c.row_at-row.ensures good c.if-row-eq0.false (sym c.is_unlike.ensures ∙ p)
            | inr p ↦ piece-large a.table.now a.rows.now a.received.now a.set.now a.place c.numbers_at-n.result.first c.row_at-row.result c.row_at-row.ensures good c.if-row-eq0.false (sym c.is_unlike.ensures ∙ p.0) p.1
          ]);
      out_unchanged = λ q. refl;
    }

took : (c : After-put_ie) → let a = c.args in Took (piece_by (lent_of a.table.now a.rows.now a.received.now a.set.now) a.place (numbers_at a.table.now a.place).first) a.at a.out.now c.put_ie.result c.put_ie.new.out
took c =
    let a = c.args in
    rw (sym (ap (λ (x : Numbers). x.first) c.numbers_at-n.ensures))
    (piece-took a.table.now a.rows.now a.received.now a.set.now a.place c.numbers_at-n.result.first c.row_at-row.result c.row_at-row.ensures (sym c.is_good.ensures ∙ c.if-not-is_good.false) c.if-row-eq0.false (sym c.is_unlike.ensures ∙ c.if-is_unlike.false) (omega (arith, c.if-n-gt255.false)) c.numbers_at-n.ensures c.form_of-form.ensures c.value_octets-value.ensures.result_value a.at a.out.now c.requires c.put_ie.ensures)

pub returns-in_err-took : goal.returns-in_err-took
returns-in_err-took c =
    let t = took (goal.at.returns-in_err-took c).After-put_ie in
    record { put_by = rw c.from_residual.ensures (t.not_put c.in_err-took.was); out_unchanged = λ q. t.same c.in_err-took.was }

pub overflow_add-result : goal.overflow_add-result
overflow_add-result c =
    let t = took (goal.at.overflow_add-result c).After-put_ie in
    omega (arith, c.well_formed, t.inside c.in_ok-took.took c.in_ok-took.was)

pub returns : goal.returns
returns c =
    let t = took (goal.at.returns c).After-put_ie in
    record { put_by = t.more c.in_ok-took.took c.in_ok-took.was; out_unchanged = λ q. let z : ◌≡◌ {A = ℕ} 0 1 = cc in absurd (omega arith) }
