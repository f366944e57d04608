-- `say` puts a text under the limit whole.
-- Behind it nothing is put.
use native.Mathlib.Omega.{arith}
use Rattle.wording.proofs.Said.{put-said, put-far, put-too-long}
use Rattle.wording.proofs.say.Goals as goal

pub returns-then-used-ge-LIMIT : goal.returns-then-used-ge-LIMIT
returns-then-used-ge-LIMIT c = put-far _ _ _ (omega arith)

pub returns-then-text-ge-LIMIT : goal.returns-then-text-ge-LIMIT
returns-then-text-ge-LIMIT c = put-too-long _ _ _ (omega arith) (omega arith)

pub returns : goal.returns
returns c = put-said (omega arith) (omega arith) c.put.ensures
