-- `put_row` writes the numbers where there is room for all of them, and else nothing.
-- The end is past the rows where the sum does not fit its type.
use Prim.Native.Nat.{◌-◌}
use native.Mathlib.Omega.{arith}
use mathlib.Core.Path.{sym}
use Rattle.rows.proofs.PutRow.{put-nowhere, put-between}
use Rattle.rows.proofs.lent.put_row.Goals as goal

pub returns-in_default : goal.returns-in_default
returns-in_default g c = let a = c.args in let e = c.in_default.ensures in sym (put-nowhere a.at a.numbers a.rows.now (omega arith))

pub returns-then-end-rows : goal.returns-then-end-rows
returns-then-end-rows g c =
    let a = c.args in
    let e = c.in-Some.ensures in
    put-between a.at a.numbers a.rows.now (c.in-Some.end - a.at) (omega arith) (omega arith) c.copy_from_slice.ensures.after

pub returns-else-end-rows : goal.returns-else-end-rows
returns-else-end-rows g c = let a = c.args in let e = c.in-Some.ensures in sym (put-nowhere a.at a.numbers a.rows.now (omega arith))
