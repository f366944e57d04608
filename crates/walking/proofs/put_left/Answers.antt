-- `put_left` is a run of as many elements as the log has octets.
-- There are no more of them, so these are all.
use lib.ListN.{length}
use Rattle.walking.specs.Walks.{elements_from}
use Rattle.walking.proofs.Laying.{lays-as}
use Rattle.walking.proofs.Elements.{elements-few}
use Rattle.walking.proofs.Runs.{nexts-all}
use Rattle.walking.proofs.put_left.Goals as goal

pub returns : goal.returns
returns c =
    let a = c.args in
    lays-as c.put_run.ensures.lays (nexts-all (length a.kept.now) (elements_from a.kept.now a.pen.kept) (elements-few a.kept.now a.pen.kept))
