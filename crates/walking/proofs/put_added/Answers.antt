-- `put_added` takes a place a turn: the invariant says that what is left of the added elements gives the buffer of all of them.
use Prim.Native.Nat.{◌+◌, ◌-◌}
use mathlib.Core.List.{[], ◌∷◌}
use Rattle.seen.specs.Seen.{set_of}
use Rattle.placing.specs.Pieces.{lent_of}
use Rattle.walking.specs.Walks.{added_piece, added_by}
use Rattle.walking.proofs.Laying.{going-begun, going-as, going_on, going_end}
use Rattle.walking.proofs.Runs.{added_next, added-over}
use Rattle.walking.proofs.put_added.Goals as goal

pub loop-k-init : goal.loop-k-init
loop-k-init c = going-begun c.requires

pub put_first-next-requires : goal.put_first-next-requires
put_first-next-requires c = c.loop-k.invariant.inside

pub loop-k-preserved : goal.loop-k-preserved
loop-k-preserved c = let a = c.args in let m = lent_of a.table.now a.rows.now a.received.now a.set.now in let l = c.loop-k in going_on (added_piece m (set_of a.added) l.k ∷ []) (added_by m (set_of a.added) (l.k + 1) (a.to - (l.k + 1))) (going-as (added_next m (set_of a.added) l.k a.to c.loop-k-test.true) l.invariant) c.put_first-next.ensures

pub shape_of-output : goal.shape_of-output
shape_of-output c = c.loop-k.invariant.long

pub returns : goal.returns
returns c = let a = c.args in let l = c.loop-k in going_end (going-as (added-over (lent_of a.table.now a.rows.now a.received.now a.set.now) (set_of a.added) l.k a.to c.loop-k-test.false) l.invariant)
