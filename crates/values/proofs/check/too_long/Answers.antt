-- `too_long` makes the tests of the definition one after the other.
-- By those that led to an answer.
use Rattle.std.proofs.Common.{rules}
use Rattle.definitions.specs.Basic.{too_long}
use Rattle.definitions.specs.Values.{values_too_long}
use Rattle.values.specs.Checks.{long_with}
use Rattle.values.proofs.check.too_long.Goals as goal

pub returns-then-used-gt-MOST_OCTETS : goal.returns-then-used-gt-MOST_OCTETS
unfolding long_with values_too_long too_long
returns-then-used-gt-MOST_OCTETS c = search rules

pub returns-else-used-gt-MOST_OCTETS : goal.returns-else-used-gt-MOST_OCTETS
unfolding long_with values_too_long too_long
returns-else-used-gt-MOST_OCTETS c = search rules
