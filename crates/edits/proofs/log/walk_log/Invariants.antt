-- `walk_log` passes an entry a turn: the invariant says what is known with the entries left.
-- The measure is what is left of the log.
use Prim.Native.Nat.{◌-◌}
use lib.ListN.{length}
use Rattle.definitions.specs.Rows.{rows_of}
use Rattle.edits.proofs.Logged.{Walking}
use Rattle.edits.proofs.log.walk_log.Given as goal

abbrev pub invariant-loop-at : goal.invariant-loop-at
invariant-loop-at l = Walking (rows_of l.table) l.rows l.want l.order l.at l.a

abbrev pub decreases-loop-at : goal.decreases-loop-at
decreases-loop-at l = length l.order - l.at
