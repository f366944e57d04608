-- `put_added` takes a place a turn: the invariant says that what is left of the added elements gives the buffer of all of them.
use Prim.Native.Nat.{◌-◌}
use Rattle.seen.specs.Seen.{set_of}
use Rattle.placing.specs.Pieces.{lent_of}
use Rattle.walking.specs.Walks.{added_by, Going}
use Rattle.walking.proofs.put_added.Given as goal

abbrev pub invariant-loop-k : goal.invariant-loop-k
invariant-loop-k l = Going (added_by (lent_of l.table l.rows l.received l.set) (set_of l.added) l.from (l.to - l.from)) l.at l.initial.output (added_by (lent_of l.table l.rows l.received l.set) (set_of l.added) l.k (l.to - l.k)) l.next l.output
