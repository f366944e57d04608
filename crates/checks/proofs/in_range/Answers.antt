-- `in_range` is the ranges of a row's numbers behind its IEIs.
-- Each way out settles the tests up to its own.
use native.Mathlib.Omega.{arith}
use Rattle.std.proofs.lemmas.Bool.Decides.{nat_tests}
use Rattle.checks.specs.Passes.{in_range}
use Rattle.checks.proofs.RowChecks.{by-kinds}
use Rattle.checks.proofs.in_range.Goals as goal

pub returns-then-size_fits : goal.returns-then-size_fits
returns-then-size_fits c = let a = c.args.row in rw (by-kinds a.code a.size a.least a.greatest a.kinds) (grind (arith, nat_tests))

pub returns-else-size_fits : goal.returns-else-size_fits
returns-else-size_fits c = let a = c.args.row in rw (by-kinds a.code a.size a.least a.greatest a.kinds) (grind (arith, nat_tests))
