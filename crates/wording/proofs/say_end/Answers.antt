-- `say_end` puts the last line at a position under the limit.
-- The line is short.
use native.Mathlib.Omega.{arith}
use Rattle.wording.proofs.Lines.{end_short}
use Rattle.wording.proofs.Said.{put-said, put-far}
use Rattle.wording.proofs.say_end.Goals as goal

pub returns-then-used-ge-LIMIT : goal.returns-then-used-ge-LIMIT
returns-then-used-ge-LIMIT c = put-far _ _ _ (omega arith)

pub returns : goal.returns
returns c = put-said (omega arith) (omega (arith, end_short c.args.n)) c.put_end.ensures
