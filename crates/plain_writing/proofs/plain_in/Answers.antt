-- `plain_in` copies out what the places put into N zeros.
-- What they put stands in the output as it stood in the array.
use Prim.Native.Nat.{◌-◌}
use native.Mathlib.Omega.{arith}
use mathlib.Core.Path.{◌≡◌}
use lib.ListN.{length, length-replicate}
use Rattle.definitions.specs.Rows.{rows_of}
use Rattle.placing.proofs.Copies.{wrote}
use Rattle.plain_writing.proofs.plain_in.Goals as goal

pub returns : goal.returns
returns g c =
    let a = c.args in
    let n = c.places.ensures in
    let z : c.places.result - 0 ≡ length (rows_of a.table.now) = omega arith in
    wrote g.row.N _ _ _ a.output.now _ (length-replicate g.row.N 0) c.put_between-passed.result c.copy_out.result (rw z at c.put_between-passed.ensures.put_by) c.copy_out.ensures
