-- `enter_row` enters an IEI a turn: those left, entered from here on, give what the whole row does.
-- The IEI of a turn is the one that the row lists there.
use native.Mathlib.Omega.{arith}
use Prim.Native.Nat.{ℕ}
use mathlib.Core.Path.{ap, ap₂, ◌∙◌}
use mathlib.Core.Bool.{Bool, ◌&&◌}
use lib.Dec.{eqb}
use Rattle.definitions.specs.Rows.{rows_of, row_at, ieis, good_iei}
use Rattle.indexing.specs.Marks.{free, enter, enter_all, enters}
use Rattle.rows.proofs.WholeRows.{slot-listed}
use Rattle.indexing.proofs.Steps.{entering, entered-one, entered_all}
use Rattle.indexing.proofs.marks.enter_row.Goals as goal

pub loop-j-init : goal.loop-j-init
loop-j-init c = entering _ _ _ _

pub loop-j-preserved : goal.loop-j-preserved
loop-j-preserved c =
    let a = c.args in
    let l = c.loop-j in
    let half = eqb c.code_at-half.result 0 in
    let e = c.slot_at.ensures ∙ slot-listed (row_at (rows_of a.table.now) a.place) l.j (omega arith) in
    entered-one _ _ _ _ _ _ _ _ _ l.invariant (omega arith)
    (ap (λ (b : Bool). l.good && b) (c.enter_iei-good.ensures.0 ∙ ap (λ (x : ℕ). good_iei half x && free l.index x) e))
    (c.enter_iei-good.ensures.1 ∙ ap (λ (x : ℕ). enter c.mark_of-mark.result x l.index) e)

pub shape_of-index : goal.shape_of-index
shape_of-index c = c.loop-j.invariant.size

pub returns : goal.returns
returns c =
    let a = c.args in
    let is = ieis (row_at (rows_of a.table.now) a.place) in
    let e = entered_all _ _ _ _ _ _ _ c.loop-j.invariant (omega arith) in
    let m = c.mark_of-mark.ensures in
    (e.0 ∙ ap₂ (λ (n m : ℕ). enters (eqb n 0) m is a.index.now) c.code_at-half.ensures m, e.1 ∙ ap (λ (m : ℕ). enter_all m is a.index.now) m)
