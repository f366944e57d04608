-- `put_unnamed` puts a place a turn, or passes a named one: what is left of the places leads to all of them. Past the end nothing is put, and
-- nothing of bare ones.
use Prim.Native.Nat.{◌-◌}
use Rattle.seen.specs.Seen.{set_of}
use Rattle.placing.specs.Pieces.{lent_of}
use Rattle.placing.proofs.Pieces.{Going}
use Rattle.unnamed.specs.Named.{unnamed}
use Rattle.unnamed.proofs.put_unnamed.Given as goal

abbrev pub invariant-loop-k : goal.invariant-loop-k
invariant-loop-k l = Going (unnamed (lent_of l.table l.rows l.received l.set) (set_of l.names) l.from (l.to - l.from)) l.start l.initial.out (unnamed (lent_of l.table l.rows l.received l.set) (set_of l.names) l.k (l.to - l.k)) l.at l.out
