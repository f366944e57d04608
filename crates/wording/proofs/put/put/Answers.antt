-- `put` lends the rest of the buffer, if any is left.
-- Past the end nothing is put.
use mathlib.Core.Path.{refl, sym}
use native.Mathlib.Omega.{arith}
use Rattle.wording.proofs.Puts.{no_room, put-lent}
use Rattle.wording.proofs.put.put.Goals as goal

pub returns-then-used-out : goal.returns-then-used-out
returns-then-used-out c = record { used = refl; out = sym (no_room c.args.used c.args.text.now c.args.out.now (omega arith)) }

pub returns : goal.returns
returns c = record { used = refl; out = put-lent c.args.used c.args.text.now c.args.out.now (omega arith) c.put_slice.ensures }
