-- `say_cut` puts the line of a cut at a position under the limit.
-- The line is short.
use native.Mathlib.Omega.{arith}
use Rattle.wording.proofs.Lines.{cut_short_lem}
use Rattle.wording.proofs.Said.{put-said, put-far}
use Rattle.wording.proofs.say_cut.Goals as goal

pub returns-then-used-ge-LIMIT : goal.returns-then-used-ge-LIMIT
returns-then-used-ge-LIMIT c = put-far _ _ _ (omega arith)

pub returns : goal.returns
returns c = put-said (omega arith) (omega (arith, cut_short_lem c.args.cut.start c.args.cut.first c.args.cut.left c.args.cut.missing)) c.put_cut.ensures
