-- `fill` writes a row a turn: what is left to write from here on gives what the whole table leaves.
-- Each way out, and each turn, is the law of what the row finds.
use Prim.Native.Nat.{◌+◌}
use native.Mathlib.Omega.{arith}
use mathlib.Core.Path.{◌≡◌, sym}
use Rattle.std.specs.Prelude.{Ok}
use Rattle.definitions.specs.Mandatory.{mandatory_rows_of}
use Rattle.definitions.proofs.Lists.{to_end}
use Rattle.mandatory.proofs.Filling.{Filling, filling, filled-all, filled-lacking, small, filled_on}
use Rattle.mandatory.proofs.decode.fill.Goals as goal
use Rattle.mandatory.proofs.decode.fill.Goals.{After-put_row}

pub loop-row-init : goal.loop-row-init
loop-row-init c = filling (mandatory_rows_of c.args.table.now) c.args.part.now c.args.rows.now c.requires.0

pub returns-in_default : goal.returns-in_default
returns-in_default c =
    filled-lacking (mandatory_rows_of c.args.table.now) c.args.part.now c.args.rows.now c.loop-row.row c.loop-row.at c.loop-row.rows c.loop-row.invariant (omega (arith, c.mandatory_rows-row-end.ensures)) (sym (rw to_end at c.in_default.ensures))

pub overflow_add-at : goal.overflow_add-at
overflow_add-at c =
    let s = small (mandatory_rows_of c.args.table.now) c.args.part.now c.args.rows.now c.loop-row.row c.loop-row.at c.loop-row.rows c.loop-row.invariant (omega (arith, c.mandatory_rows-row-end.ensures)) c.in-Ok.found (sym (rw to_end at c.in-Ok.ensures)) c.requires.1 in omega (arith, s.0)

pub overflow_cast-at : goal.overflow_cast-at
overflow_cast-at c =
    let s = small (mandatory_rows_of c.args.table.now) c.args.part.now c.args.rows.now c.loop-row.row c.loop-row.at c.loop-row.rows c.loop-row.invariant (omega (arith, c.mandatory_rows-row-end.ensures)) c.in-Ok.found (sym (rw to_end at c.in-Ok.ensures)) c.requires.1 in omega (arith, s.0)

pub overflow_cast-found : goal.overflow_cast-found
overflow_cast-found c =
    let s = small (mandatory_rows_of c.args.table.now) c.args.part.now c.args.rows.now c.loop-row.row c.loop-row.at c.loop-row.rows c.loop-row.invariant (omega (arith, c.mandatory_rows-row-end.ensures)) c.in-Ok.found (sym (rw to_end at c.in-Ok.ensures)) c.requires.1 in omega (arith, s.1)

-- what the next turn starts from
next : (c : After-put_row) → Filling (mandatory_rows_of c.args.table.now) c.args.part.now c.args.rows.now (c.loop-row.row + 1) (c.loop-row.at + c.in-Ok.found.took) c.put_row.new.rows
next c =
    filled_on (mandatory_rows_of c.args.table.now) c.args.part.now c.args.rows.now c.loop-row.row c.loop-row.at c.loop-row.rows c.loop-row.invariant (omega (arith, c.mandatory_rows-row-end.ensures)) c.in-Ok.found (sym (rw to_end at c.in-Ok.ensures)) c.put_row.ensures

pub overflow_add-at-in-loop-row : goal.overflow_add-at-in-loop-row
overflow_add-at-in-loop-row c = let n = next (goal.at.overflow_add-at-in-loop-row c).After-put_row in omega (arith, n.inside)

pub loop-row-preserved : goal.loop-row-preserved
loop-row-preserved c = next (goal.at.loop-row-preserved c).After-put_row

pub returns : goal.returns
returns c = filled-all (mandatory_rows_of c.args.table.now) c.args.part.now c.args.rows.now c.loop-row.row c.loop-row.at c.loop-row.rows c.loop-row.invariant (omega (arith, c.mandatory_rows-row-end.ensures))
