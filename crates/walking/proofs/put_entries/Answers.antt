-- `put_entries` writes a run of entries that are none of a known element, or one that is, a turn: the invariant says that what is left to
-- write gives the output of the whole. The measure is what is left of the log.
use Prim.Native.Nat.{◌+◌, ◌≤◌, ◌<◌}
use native.Mathlib.Omega.{arith}
use mathlib.Core.Path.{◌≡◌}
use lib.ListN.{length, get_or, drop, length-drop}
use Rattle.definitions.proofs.Lists.{to_end}
use Rattle.seen.specs.Seen.{set_of}
use Rattle.placing.specs.Pieces.{lent_of}
use Rattle.walking.proofs.Laying.{going-begun}
use Rattle.walking.proofs.Runs.{NoZero, run_on, known_on, end_on, nothing_left}
use Rattle.walking.proofs.put_entries.Goals as goal
use Rattle.walking.proofs.put_entries.Goals.{After-asides-n}

pub loop-from-init : goal.loop-from-init
loop-from-init c = (omega arith, record { going = going-begun (omega arith); within = omega arith })

-- the entries at the front that are none of a known element
asided : (c : After-asides-n) → let s = drop c.loop-from.from c.args.order.now in let n = c.asides-n.result in (c.loop-from.from + n ≤ length c.args.order.now) × NoZero s n × (n < length s → get_or s n 0 ≡ 0)
asided c =
    let e = rw to_end at c.asides-n.ensures in
    let d = length-drop c.loop-from.from c.args.order.now in
    (omega (arith, e.0, d, c.loop-from.invariant.0), e.1, e.2)

-- an entry of a known element begins with a 0
first : (c : After-asides-n) → c.asides-n.result ≡ 0 → get_or (drop c.loop-from.from c.args.order.now) 0 0 ≡ 0
first c z = rw z at ((asided c).2 (simp length-drop (omega arith)))

pub put_run-pen-requires : goal.put_run-pen-requires
put_run-pen-requires c = let w = c.loop-from.invariant.1 in (w.within, w.going.inside)

pub loop-from-smaller-then-n-gt0 : goal.loop-from-smaller-then-n-gt0
loop-from-smaller-then-n-gt0 c = let r = asided (goal.at.loop-from-smaller-then-n-gt0 c).After-asides-n in omega (arith, r.0)

pub loop-from-preserved-then-n-gt0 : goal.loop-from-preserved-then-n-gt0
loop-from-preserved-then-n-gt0 c =
    let a = c.args in
    let l = c.loop-from in
    let r = asided (goal.at.loop-from-preserved-then-n-gt0 c).After-asides-n in
    (r.0, run_on (lent_of a.table.now a.rows.now a.received.now a.set.now) a.index.now (set_of a.added) a.order.now a.kept.now a.output.now l.from l.pen l.output l.invariant.1 c.asides-n.result (simp length-drop (omega (arith, r.0))) r.1 c.put_run-pen.ensures)

pub shape_of-output-then-order-from-lt2 : goal.shape_of-output-then-order-from-lt2
shape_of-output-then-order-from-lt2 c = c.loop-from.invariant.1.going.long

pub returns-then-order-from-lt2 : goal.returns-then-order-from-lt2
returns-then-order-from-lt2 c =
    let a = c.args in
    let l = c.loop-from in
    end_on (lent_of a.table.now a.rows.now a.received.now a.set.now) a.index.now (set_of a.added) a.order.now a.kept.now a.output.now l.from l.pen l.output l.invariant.1 (simp length-drop (omega (arith, c.if-order-from-lt2.true))) (first (goal.at.returns-then-order-from-lt2 c).After-asides-n (omega (arith, c.if-n-gt0.false)))

pub bounds-order-from : goal.bounds-order-from
bounds-order-from c = omega (arith, c.if-order-from-lt2.false)

pub put_known-pen-requires : goal.put_known-pen-requires
put_known-pen-requires c = c.loop-from.invariant.1.going.inside

pub loop-from-smaller : goal.loop-from-smaller
loop-from-smaller c = omega (arith, c.if-order-from-lt2.false)

pub loop-from-preserved : goal.loop-from-preserved
loop-from-preserved c =
    let a = c.args in
    let l = c.loop-from in
    (omega (arith, c.if-order-from-lt2.false), known_on (lent_of a.table.now a.rows.now a.received.now a.set.now) a.index.now (set_of a.added) a.order.now a.kept.now a.output.now l.from l.pen l.output l.invariant.1 (simp length-drop (omega (arith, c.if-order-from-lt2.false))) (first (goal.at.loop-from-preserved c).After-asides-n (omega (arith, c.if-n-gt0.false))) c.put_known-pen.ensures)

pub shape_of-output : goal.shape_of-output
shape_of-output c = c.loop-from.invariant.1.going.long

pub returns : goal.returns
returns c =
    let a = c.args in
    let l = c.loop-from in
    let n = nothing_left (drop l.from a.order.now) (simp length-drop (omega (arith, c.loop-from-test.false))) in
    end_on (lent_of a.table.now a.rows.now a.received.now a.set.now) a.index.now (set_of a.added) a.order.now a.kept.now a.output.now l.from l.pen l.output l.invariant.1 (omega (arith, n.0)) n.1
