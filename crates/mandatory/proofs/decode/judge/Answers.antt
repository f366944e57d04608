-- `judge` takes a row a turn: what is judged from here on gives what the whole table does.
-- Each way out, and each turn, is the law of what the row comes to.
use Prim.Native.Nat.{◌+◌}
use native.Mathlib.Omega.{arith}
use mathlib.Core.Path.{sym}
use Rattle.definitions.specs.Mandatory.{mandatory_rows_of}
use Rattle.definitions.proofs.Lists.{to_end}
use Rattle.mandatory.specs.Notes.{with_fault}
use Rattle.mandatory.proofs.Judging.{Judging, judging, judged-all, judged-stopped, judged-on}
use Rattle.mandatory.proofs.decode.judge.Goals as goal
use Rattle.mandatory.proofs.decode.judge.Goals.{After-with_fault-notes}

pub loop-row-init : goal.loop-row-init
loop-row-init c = rw c.no_notes-notes.ensures (judging c.args.lenient (mandatory_rows_of c.args.table.now) c.args.part.now)

pub returns-in-Err : goal.returns-in-Err
returns-in-Err c =
    judged-stopped c.args.lenient (mandatory_rows_of c.args.table.now) c.args.part.now c.loop-row.row c.loop-row.at c.loop-row.notes c.loop-row.invariant (omega (arith, c.mandatory_rows-row-end.ensures)) c.in-Err.error (sym (rw to_end at c.in-Err.ensures))

-- what the next turn starts from
next : (c : After-with_fault-notes) → Judging c.args.lenient (mandatory_rows_of c.args.table.now) c.args.part.now (c.loop-row.row + 1) (c.loop-row.at + c.in-Ok.found.took) (with_fault c.loop-row.notes c.loop-row.row c.in-Ok.found.fault)
next c =
    judged-on c.args.lenient (mandatory_rows_of c.args.table.now) c.args.part.now c.loop-row.row c.loop-row.at c.loop-row.notes c.loop-row.invariant (omega (arith, c.mandatory_rows-row-end.ensures)) c.in-Ok.found (sym (rw to_end at c.in-Ok.ensures)) (omega (arith, c.mandatory_rows-row-end.ensures, c.requires))

pub overflow_add-at : goal.overflow_add-at
overflow_add-at c = let n = next (goal.at.overflow_add-at c).After-with_fault-notes in omega (arith, n.inside)

pub loop-row-preserved : goal.loop-row-preserved
loop-row-preserved c = rw c.with_fault-notes.ensures (next (goal.at.loop-row-preserved c).After-with_fault-notes)

pub returns : goal.returns
returns c = judged-all c.args.lenient (mandatory_rows_of c.args.table.now) c.args.part.now c.loop-row.row c.loop-row.at c.loop-row.notes c.loop-row.invariant (omega (arith, c.mandatory_rows-row-end.ensures))
