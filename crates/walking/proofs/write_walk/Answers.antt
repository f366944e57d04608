-- `write_walk` writes the entries, then the added elements that are left, then the kept ones.
-- What is left behind each is what the next puts.
use Prim.Native.Nat.{◌-◌}
use lib.ListN.{length}
use Rattle.definitions.specs.Rows.{rows_of}
use Rattle.seen.specs.Seen.{set_of}
use Rattle.placing.specs.Pieces.{lent_of}
use Rattle.walking.specs.Walks.{elements_from, added_by}
use Rattle.walking.proofs.Laying.{lays-inside, going-as, going_on, going-last}
use Rattle.walking.proofs.Runs.{pieces_end}
use Rattle.walking.proofs.write_walk.Goals as goal

pub put_left-requires : goal.put_left-requires
put_left-requires c = let w = c.put_entries-pen.ensures in (w.within, lays-inside c.put_lower-at.ensures w.going.inside)

pub returns : goal.returns
returns c =
    let a = c.args in
    let m = lent_of a.table.now a.rows.now a.received.now a.set.now in
    let w = c.put_entries-pen.ensures in
    let p = c.put_entries-pen.result in
    let ks = elements_from a.kept.now p.kept in
    let n = length (rows_of a.table.now) in
    going-last (going_on (added_by m (set_of a.added) p.place (n - p.place)) ks (going-as (pieces_end m a.index.now (set_of a.added) p.place ks) w.going) (rw c.places.ensures at c.put_lower-at.ensures)) c.put_left.ensures
