-- `put_entries` writes a run of entries that are none of a known element, or one that is, a turn: the invariant says that what is left to
-- write gives the output of the whole. The measure is what is left of the log.
use Prim.Native.Nat.{◌-◌, ◌≤◌}
use lib.ListN.{length, drop}
use Rattle.seen.specs.Seen.{set_of}
use Rattle.placing.specs.Pieces.{lent_of}
use Rattle.walking.specs.Walks.{WalkLaid}
use Rattle.walking.proofs.put_entries.Given as goal

abbrev pub invariant-loop-from : goal.invariant-loop-from
invariant-loop-from l = (l.from ≤ length l.order) × WalkLaid (lent_of l.table l.rows l.received l.set) l.index (set_of l.added) l.order l.kept l.initial.output (drop l.from l.order) l.pen l.output

abbrev pub decreases-loop-from : goal.decreases-loop-from
decreases-loop-from l = length l.order - l.from
