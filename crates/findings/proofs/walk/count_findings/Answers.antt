-- `count_findings` passes an entry a turn: the invariant says that those counted and those that are left are all.
-- The measure is what is left of the order log.
use native.Mathlib.Omega.{arith}
use Rattle.findings.proofs.Walked.{count-begun, count_none, count-one, count-ended}
use Rattle.findings.proofs.walk.count_findings.Goals as goal

pub loop-w-init : goal.loop-w-init
loop-w-init c = let a = c.args in count-begun a.index.now a.order.now a.kept.now c.requires

pub next_entry-s-requires : goal.next_entry-s-requires
next_entry-s-requires c = (c.loop-w.invariant.walking, omega arith)

pub overflow_add-n : goal.overflow_add-n
overflow_add-n c = let i = c.loop-w.invariant in omega (arith, i.few, i.walking.few)

pub loop-w-smaller : goal.loop-w-smaller
loop-w-smaller c = omega (arith, c.next_entry-s.ensures.further)

pub loop-w-preserved : goal.loop-w-preserved
loop-w-preserved c =
    let a = c.args in
    let l = c.loop-w in
    let s = c.next_entry-s in
    grind (arith, count-one a.index.now a.order.now a.kept.now l.w l.n l.invariant s.result s.ensures, count_none a.index.now a.order.now a.kept.now l.w l.n l.invariant s.result s.ensures)

pub returns : goal.returns
returns c = let a = c.args in count-ended a.index.now a.order.now a.kept.now c.loop-w.w c.loop-w.n c.loop-w.invariant (omega arith)
