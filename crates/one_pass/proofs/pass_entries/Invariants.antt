-- `pass_entries` passes an entry a turn: what is left of both logs leads to the whole message.
-- The measure is what is left of the order log.
use Prim.Native.Nat.{◌-◌}
use lib.ListN.{length, drop}
use Rattle.definitions.specs.Logs.{order_list}
use Rattle.seen.specs.Seen.{set_of}
use Rattle.placing.specs.Pieces.{lent_of}
use Rattle.one_pass.specs.Passes.{Passing}
use Rattle.one_pass.proofs.pass_entries.Given as goal

abbrev pub invariant-loop-from : goal.invariant-loop-from
invariant-loop-from l = Passing (lent_of l.table l.rows l.received l.set) l.index (set_of l.names) l.order l.kept l.initial.out (order_list (drop l.from l.order)) l.pen l.out

abbrev pub decreases-loop-from : goal.decreases-loop-from
decreases-loop-from l = length l.order - l.from
