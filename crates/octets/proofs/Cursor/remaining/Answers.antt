-- `Cursor::remaining` is the difference of length and position.
use Rattle.definitions.specs.Octets.{remaining}
use Rattle.octets.proofs.Cursor.remaining.Goals as goal

pub returns : goal.returns
unfolding remaining
returns c = c.saturating_sub.ensures
