-- `survey` looks at a place a turn: the invariant says that all before are well formed, the first that does not fit, and which are added.
-- Each arm cites the step of what the look found.
use Prim.Native.Nat.{◌<◌}
use native.Mathlib.Omega.{arith}
use mathlib.Core.Path.{◌≡◌}
use lib.ListN.{length}
use Rattle.definitions.specs.Rows.{rows_of}
use Rattle.definitions.proofs.TableLaws.{few-places}
use Rattle.seen.specs.Seen.{set_of}
use Rattle.measured_writing.specs.Added.{filled_of}
use Rattle.measured_writing.proofs.Surveying.{looking-begun, looking-few, looking-bad, looking-not-fit, looking-absent, looking-step, looking-unfit, looking-ended}
use Rattle.measured_writing.proofs.sizes.survey.Goals as goal
use Rattle.measured_writing.proofs.sizes.survey.Goals.{in-Ok-None, in-Ok-Some, in-Err-Unfit}

pub loop-k-init : goal.loop-k-init
loop-k-init c = let a = c.args in rw c.new.ensures (looking-begun (filled_of a.table.now a.rows.now a.received.now a.set.now) (set_of a.seen))

pub look-requires : goal.look-requires
look-requires c = c.requires

pub returns-in-Err-Bad : goal.returns-in-Err-Bad
returns-in-Err-Bad c =
    let a = c.args in
    let l = c.loop-k in
    looking-bad (filled_of a.table.now a.rows.now a.received.now a.set.now) (set_of a.seen) l.k (omega (arith, c.places-k-end.ensures)) l.unfit l.t l.invariant (rw c.in-Err-Bad.field-0-is at c.in-Err-Bad.ensures)

pub with_added-t-requires : goal.with_added-t-requires
with_added-t-requires c =
    let a = c.args in
    let l = c.loop-k in
    let few = looking-few (filled_of a.table.now a.rows.now a.received.now a.set.now) (set_of a.seen) l.k l.unfit l.t l.invariant in
    ((rw c.in-Ok-Some.field-0-is at c.in-Ok-Some.ensures).4, omega (arith, few.0, few.1, few-places (rows_of a.table.now) c.requires.0))

pub loop-k-preserved : goal.loop-k-preserved
loop-k-preserved c =
    let a = c.args in
    let l = c.loop-k in
    let m = filled_of a.table.now a.rows.now a.received.now a.set.now in
    let s = set_of a.seen in
    let h : l.k < length (rows_of a.table.now) = omega (arith, c.places-k-end.ensures) in
    let low : l.k < 128 = omega (arith, h, few-places (rows_of a.table.now) c.requires.0) in
    elim c.match-look.branch [
      | in-Ok-None w ↦ rw (w.t-is, w.unfit-is) (looking-absent m s l.k h l.unfit l.t l.invariant (rw w.in-Ok-None.field-0-is at w.in-Ok-None.ensures))
      | in-Ok-Some w ↦ rw (w.t-is, w.unfit-is) (looking-step m s l.k h l.unfit l.t l.invariant low (rw w.in-Ok-Some.field-0-is at w.in-Ok-Some.ensures) w.with_added-t.ensures)
      | in-Err-Unfit w ↦ rw (w.t-is, w.unfit-is, w.or-unfit.ensures) (looking-not-fit m s l.k h l.unfit l.t l.invariant (rw w.in-Err-Unfit.field-0-is at w.in-Err-Unfit.ensures))
    ]

pub returns-in-Some : goal.returns-in-Some
returns-in-Some c =
    let a = c.args in
    let l = c.loop-k in
    looking-unfit (filled_of a.table.now a.rows.now a.received.now a.set.now) (set_of a.seen) l.k c.in-Some.k l.t (rw c.in-Some.is at l.invariant) (omega (arith, c.places-k-end.ensures))

pub returns-in-None : goal.returns-in-None
returns-in-None c =
    let a = c.args in
    let l = c.loop-k in
    looking-ended (filled_of a.table.now a.rows.now a.received.now a.set.now) (set_of a.seen) l.k l.t (rw c.in-None.is at l.invariant) (omega (arith, c.places-k-end.ensures)) (few-places (rows_of a.table.now) c.requires.0)
