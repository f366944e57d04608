-- `say_line` puts the line of an element at a position under the limit.
-- The line is short.
use native.Mathlib.Omega.{arith}
use Rattle.wording.proofs.Lines.{line-short}
use Rattle.wording.proofs.Said.{put-said, put-far}
use Rattle.wording.proofs.say_line.Goals as goal

pub returns-then-used-ge-LIMIT : goal.returns-then-used-ge-LIMIT
returns-then-used-ge-LIMIT c = put-far _ _ _ (omega arith)

pub returns : goal.returns
returns c = put-said (omega arith) (omega (arith, line-short c.args.e)) c.put_line.ensures
