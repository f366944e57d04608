-- `more_pass` is the check of a row by its numbers, with its IEIs entered by `enter_row`.
-- By the law of a row's check.
use native.Mathlib.Omega.{arith}
use Rattle.std.proofs.lemmas.Bool.Decides.{nat_tests}
use Rattle.checks.proofs.RowChecks.{judged}
use Rattle.checks.proofs.more_pass.Goals as goal

pub returns-then-contains : goal.returns-then-contains
returns-then-contains c = (rw (judged _ _ _ _ c.requires) (grind (arith, nat_tests)), λ q. c.enter_row.ensures.1)

pub returns-else-contains : goal.returns-else-contains
returns-else-contains c = (rw (judged _ _ _ _ c.requires) (grind (arith, nat_tests)), λ q. grind (arith, nat_tests))
