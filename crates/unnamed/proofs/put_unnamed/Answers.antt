-- `put_unnamed` puts a place a turn, or passes a named one: what is left of the places leads to all of them. Past the end nothing is put, and
-- nothing of bare ones.
use Prim.Native.Nat.{◌+◌, ◌-◌}
use native.Mathlib.Omega.{arith}
use mathlib.Core.Path.{sym, ◌∙◌}
use Rattle.seen.specs.Seen.{set_of}
use Rattle.placing.specs.Pieces.{lent_of}
use Rattle.placing.proofs.Pieces.{put-not, past-not, put-nothing, going-begun, going-as, going_on, going-not, going_end}
use Rattle.unnamed.specs.Named.{unnamed}
use Rattle.unnamed.proofs.Naming.{unnamed-past, unnamed_here, unnamed-over, bare-unnamed}
use Rattle.unnamed.proofs.put_unnamed.Goals as goal
use Rattle.unnamed.proofs.put_unnamed.Goals.{then-not-has+in_ok-at, else-not-has}

pub returns-then-start-out : goal.returns-then-start-out
returns-then-start-out c = put-not (past-not _ _ _ c.if-start-out.true)

pub returns-then-is_bare : goal.returns-then-is_bare
returns-then-is_bare c =
    let a = c.args in
    rw (bare-unnamed (lent_of a.table.now a.rows.now a.received.now a.set.now) (set_of a.names) (a.to - a.from) a.from (sym c.is_bare.ensures ∙ c.if-is_bare.true)) (put-nothing (omega (arith, c.if-start-out.false)))

pub loop-k-init : goal.loop-k-init
loop-k-init c = going-begun (omega arith)

pub loop-k-preserved : goal.loop-k-preserved
loop-k-preserved c =
    let a = c.args in
    let l = c.loop-k in
    let m = lent_of a.table.now a.rows.now a.received.now a.set.now in
    let n = set_of a.names in
    let h = c.loop-k-test.true in
    elim c.if-not-has.branch [
      | then-not-has+in_ok-at w ↦ rw (w.out-is, w.at-is) (going_on (unnamed m n (l.k + 1) (a.to - (l.k + 1))) (going-as (unnamed_here m n l.k a.to h (sym c.has.ensures ∙ w.if-not-has.true)) l.invariant) (rw w.in_ok-at.was at w.put_between.ensures.put_by))
      | else-not-has w ↦ rw (w.out-is, w.at-is) (going-as (unnamed-past m n l.k a.to h (sym c.has.ensures ∙ w.if-not-has.false)) l.invariant)
    ]

pub returns-in_err-at : goal.returns-in_err-at
returns-in_err-at c =
    let a = c.args in
    let l = c.loop-k in
    let m = lent_of a.table.now a.rows.now a.received.now a.set.now in
    let e = unnamed_here m (set_of a.names) l.k a.to c.loop-k-test.true (sym c.has.ensures ∙ c.if-not-has.true) in
    rw c.from_residual.ensures (going-not (unnamed m (set_of a.names) (l.k + 1) (a.to - (l.k + 1))) (going-as e l.invariant) (rw c.in_err-at.was at c.put_between.ensures.put_by))

pub shape_of-out : goal.shape_of-out
shape_of-out c = c.loop-k.invariant.long

pub returns : goal.returns
returns c =
    let a = c.args in
    let l = c.loop-k in
    going_end (going-as (unnamed-over (lent_of a.table.now a.rows.now a.received.now a.set.now) (set_of a.names) l.k a.to c.loop-k-test.false) l.invariant)
