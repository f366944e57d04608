-- `octets_needed` adds up a row a turn.
-- Each turn is a row more.
use Prim.Native.Nat.{◌+◌}
use native.Mathlib.Omega.{arith}
use Rattle.definitions.specs.Mandatory.{mandatory_rows_of}
use Rattle.values.specs.Rows.{sources_of}
use Rattle.mandatory_writing.proofs.Sizing.{Adding, adding, added-all, added-one}
use Rattle.mandatory_writing.proofs.encode.octets_needed.Goals as goal
use Rattle.mandatory_writing.proofs.encode.octets_needed.Goals.{After-row_size-size}

pub loop-k-init : goal.loop-k-init
loop-k-init c = adding (mandatory_rows_of c.args.table.now) (sources_of c.args.received.now c.args.set.now) c.args.rows.now

pub overflow_add-size : goal.overflow_add-size
overflow_add-size c = omega (arith, c.loop-k.invariant.small, c.row_size-size.ensures.1, c.mandatory_rows-k-end.ensures, c.requires.1)

next : (c : After-row_size-size) → Adding (mandatory_rows_of c.args.table.now) (sources_of c.args.received.now c.args.set.now) c.args.rows.now (c.loop-k.k + 1) (c.loop-k.size + c.row_size-size.result)
next c = rw c.row_size-size.ensures.0 (added-one (mandatory_rows_of c.args.table.now) (sources_of c.args.received.now c.args.set.now) c.args.rows.now c.loop-k.k c.loop-k.size c.loop-k.invariant (omega (arith, c.mandatory_rows-k-end.ensures)) (rw c.row_size-size.ensures.0 at c.row_size-size.ensures.1))

pub loop-k-preserved : goal.loop-k-preserved
loop-k-preserved c = next (goal.at.loop-k-preserved c).After-row_size-size

pub returns : goal.returns
returns c = added-all (mandatory_rows_of c.args.table.now) (sources_of c.args.received.now c.args.set.now) c.args.rows.now c.loop-k.k c.loop-k.size c.loop-k.invariant (omega (arith, c.mandatory_rows-k-end.ensures))
