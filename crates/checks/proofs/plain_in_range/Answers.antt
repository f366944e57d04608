-- `plain_in_range` is the ranges of a mandatory row's numbers.
-- Each way out settles the tests up to its own; the numbers are the row's.
use native.Mathlib.Omega.{arith}
use Rattle.std.proofs.lemmas.Bool.Decides.{nat_tests}
use Rattle.definitions.specs.Mandatory.{is_half}
use Rattle.checks.specs.Passes.{plain_in_range}
use Rattle.checks.proofs.plain_in_range.Goals as goal

pub returns-then-half_fits : goal.returns-then-half_fits
unfolding plain_in_range is_half
returns-then-half_fits c = grind (arith, nat_tests)

pub returns-else-half_fits : goal.returns-else-half_fits
unfolding plain_in_range is_half
returns-else-half_fits c = grind (arith, nat_tests)
