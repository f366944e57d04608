-- `small` is the number itself, or 7 for a greater one: no table has such a number.
use native.Mathlib.Omega.{arith}
use Rattle.real.proofs.Numbers.{large-rows, large-mandatory}
use Rattle.real.proofs.small.Goals as goal

pub returns-then-number-gt6-clause-same_rows : goal.returns-then-number-gt6-clause-same_rows
returns-then-number-gt6-clause-same_rows c = large-rows c.args.number (omega arith)

pub returns-then-number-gt6-clause-same_mandatory : goal.returns-then-number-gt6-clause-same_mandatory
returns-then-number-gt6-clause-same_mandatory c = large-mandatory c.args.number (omega arith)
