-- `iei_of` is the IEI of a first octet.
-- The test is the definition's; the mask leaves what sixteen divides.
use native.Mathlib.Omega.{arith}
use mathlib.Core.Path.{◌≡◌}
use borrow.Author.Tests.{le-leb, lt-leb}
use Rattle.std.proofs.Common.{bit_and, ◌/◌, ◌*◌}
use Rattle.std.proofs.lemmas.Grind.{common_steps}
use Rattle.definitions.specs.Rows.{iei_of}
use Rattle.elements.proofs.element.iei_of.Goals as goal

pub returns-then-x-ge128 : goal.returns-then-x-ge128
unfolding iei_of
returns-then-x-ge128 c =
    let h : bit_and c.args.x 240 ≡ c.args.x / 16 * 16 = grind (arith, common_steps) in
    rw (le-leb 128 c.args.x (omega arith)) h

pub returns-else-x-ge128 : goal.returns-else-x-ge128
unfolding iei_of
returns-else-x-ge128 c = rw (lt-leb 128 c.args.x (omega arith))
