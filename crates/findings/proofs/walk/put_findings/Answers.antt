-- `put_findings` writes an entry's finding a turn: the invariant says that those that are left, written from here on, give the whole.
-- The measure is what is left of the order log.
use native.Mathlib.Omega.{arith}
use Rattle.findings.proofs.Walked.{put-begun, put-room, put_step, put_ended}
use Rattle.findings.proofs.walk.put_findings.Goals as goal

pub loop-w-init : goal.loop-w-init
loop-w-init c = let a = c.args in put-begun a.index.now a.order.now a.kept.now a.findings.now c.requires.0 c.requires.1

pub next_entry-s-requires : goal.next_entry-s-requires
next_entry-s-requires c = (c.loop-w.invariant.walking, omega arith)

pub put_found-n-requires : goal.put_found-n-requires
put_found-n-requires c =
    let a = c.args in
    let i = c.loop-w.invariant in
    (omega (arith, i.walking.few, c.requires.0.short), put-room a.index.now a.order.now a.kept.now a.findings.now c.loop-w.w c.loop-w.n c.loop-w.findings i c.next_entry-s.result c.next_entry-s.ensures)

pub loop-w-smaller : goal.loop-w-smaller
loop-w-smaller c = omega (arith, c.next_entry-s.ensures.further)

pub loop-w-preserved : goal.loop-w-preserved
loop-w-preserved c =
    let a = c.args in
    put_step a.index.now a.order.now a.kept.now a.findings.now c.loop-w.w c.loop-w.n c.loop-w.findings c.loop-w.invariant c.next_entry-s.result c.next_entry-s.ensures c.put_found-n.ensures.0 c.put_found-n.ensures.1

pub shape_of-findings : goal.shape_of-findings
shape_of-findings c = c.loop-w.invariant.long

pub returns : goal.returns
returns c = let a = c.args in put_ended a.index.now a.order.now a.kept.now a.findings.now c.loop-w.w c.loop-w.n c.loop-w.findings c.loop-w.invariant (omega arith)
