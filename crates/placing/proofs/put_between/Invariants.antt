-- `put_between` puts a place a turn: what is left of the places leads to all of them. Past the end nothing is put.
use Prim.Native.Nat.{◌-◌}
use mathlib.Core.Path.{◌≡◌}
use Rattle.placing.specs.Pieces.{lent_of, ranged, put_all}
use Rattle.placing.proofs.Pieces.{Going}
use Rattle.placing.proofs.put_between.Given as goal

abbrev pub invariant-loop-k : goal.invariant-loop-k
invariant-loop-k l = Going (ranged (lent_of l.table l.rows l.received l.set) l.from (l.to - l.from)) l.start l.initial.out (ranged (lent_of l.table l.rows l.received l.set) l.k (l.to - l.k)) l.at l.out × (put_all (lent_of l.table l.rows l.received l.set) l.from (l.to - l.from) l.start l.initial.out ≡ put_all (lent_of l.table l.rows l.received l.set) l.k (l.to - l.k) l.at l.out)
