use Rattle.std.proofs.Common.{arith}
use Rattle.std.proofs.lemmas.Grind.{common_steps}
use Rattle.std.proofs.lemmas.Bool.Decides.{nat_tests}
use Rattle.recorded_rows.specs.Places.{row_is}
use Rattle.recorded_rows.proofs.row_is.Goals as goal

pub returns-then-cell-len : goal.returns-then-cell-len
unfolding row_is
returns-then-cell-len c = grind (arith, common_steps, nat_tests)

pub returns-else-cell-len : goal.returns-else-cell-len
unfolding row_is
returns-else-cell-len c = grind (arith, common_steps, nat_tests)
