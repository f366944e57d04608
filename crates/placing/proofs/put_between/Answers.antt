-- `put_between` puts a place a turn: what is left of the places leads to all of them. Past the end nothing is put.
use Prim.Native.Nat.{◌+◌, ◌-◌}
use native.Mathlib.Omega.{arith}
use mathlib.Core.Path.{refl, sym, ◌∙◌}
use Rattle.placing.specs.Pieces.{lent_of, ranged}
use Rattle.placing.proofs.Pieces.{put-not, past-not, going-begun, going-as, going_on, going-not, going_end}
use Rattle.placing.proofs.Pieces.{ranged-next, ranged-over, all-on, all-stop, all-over, all_past}
use Rattle.placing.proofs.put_between.Goals as goal

pub returns-then-start-out : goal.returns-then-start-out
returns-then-start-out c = let a = c.args in record { put_by = put-not (past-not _ _ _ c.if-start-out.true); out_after = sym (all_past (lent_of a.table.now a.rows.now a.received.now a.set.now) a.from a.to a.start a.out.now c.if-start-out.true) }

pub loop-k-init : goal.loop-k-init
loop-k-init c = (going-begun (omega (arith, c.if-start-out.false)), refl)

pub put_first-requires : goal.put_first-requires
put_first-requires c = c.loop-k.invariant.0.inside

pub loop-k-preserved : goal.loop-k-preserved
loop-k-preserved c =
    let a = c.args in
    let m = lent_of a.table.now a.rows.now a.received.now a.set.now in
    let k = c.loop-k.k in
    let p = rw c.in_ok-at.was at c.put_first.ensures.put_by in
    (going_on (ranged m (k + 1) (a.to - (k + 1))) (going-as (ranged-next m k a.to c.loop-k-test.true) c.loop-k.invariant.0) p, c.loop-k.invariant.1 ∙ all-on m k a.to c.loop-k.at c.loop-k.out c.loop-k-test.true p)

pub returns-in_err-at : goal.returns-in_err-at
returns-in_err-at c =
    let a = c.args in
    let m = lent_of a.table.now a.rows.now a.received.now a.set.now in
    let k = c.loop-k.k in
    let p = rw c.in_err-at.was at c.put_first.ensures.put_by in
    rw c.from_residual.ensures (record { put_by = going-not (ranged m (k + 1) (a.to - (k + 1))) (going-as (ranged-next m k a.to c.loop-k-test.true) c.loop-k.invariant.0) p; out_after = c.put_first.ensures.out_unchanged c.in_err-at.was ∙ sym (c.loop-k.invariant.1 ∙ all-stop m k a.to c.loop-k.at c.loop-k.out c.loop-k-test.true p) })

pub shape_of-out : goal.shape_of-out
shape_of-out c = c.loop-k.invariant.0.long

pub returns : goal.returns
returns c = let a = c.args in record { put_by = going_end (going-as (ranged-over (lent_of a.table.now a.rows.now a.received.now a.set.now) c.loop-k.k a.to c.loop-k-test.false) c.loop-k.invariant.0); out_after = sym (c.loop-k.invariant.1 ∙ all-over (lent_of a.table.now a.rows.now a.received.now a.set.now) c.loop-k.k a.to c.loop-k.at c.loop-k.out c.loop-k-test.false) }
