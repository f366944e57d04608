-- `has` is the bit of the half that the place is in.
-- Past both there is none.
use native.Mathlib.Omega.{arith}
use mathlib.Core.Path.{sym, ◌∙◌}
use borrow.Author.Tests.{le-ltb}
use Rattle.seen.proofs.Sets.{bit-low, bit_high, bit_past}
use Rattle.seen.proofs.Seen.has.Goals as goal

pub returns-then-place-lt64 : goal.returns-then-place-lt64
returns-then-place-lt64 c = c.has_bit.ensures ∙ sym (bit-low c.args.self.high c.args.self.low (omega arith) c.args.place (omega arith))

pub returns-then-place-lt128 : goal.returns-then-place-lt128
returns-then-place-lt128 c = c.has_bit-then-place-lt128.ensures ∙ sym (bit_high c.args.self.high c.args.self.low (omega arith) c.args.place (omega arith))

pub returns-else-place-lt128 : goal.returns-else-place-lt128
returns-else-place-lt128 c = le-ltb c.args.place 128 (omega arith) ∙ sym (bit_past c.args.self.high c.args.self.low (omega arith) c.args.place (omega arith) (omega arith) (omega arith))
