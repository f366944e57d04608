-- `say_number` puts the number and the end of the line at a position under the limit.
-- Both are short.
use native.Mathlib.Omega.{arith}
use Rattle.wording.proofs.Puts.{joined}
use Rattle.wording.proofs.Lines.{decimal-short, number_short}
use Rattle.wording.proofs.Said.{put-said, put-far}
use Rattle.wording.proofs.say_number.Goals as goal

pub returns-then-used-ge-LIMIT : goal.returns-then-used-ge-LIMIT
returns-then-used-ge-LIMIT c = put-far _ _ _ (omega arith)

pub put_octet-requires : goal.put_octet-requires
put_octet-requires c = omega (arith, c.put_decimal-next.ensures.used, decimal-short c.args.n)

pub returns : goal.returns
returns c = put-said (omega arith) (omega (arith, number_short c.args.n)) (joined c.put_decimal-next.ensures c.put_octet.ensures)
