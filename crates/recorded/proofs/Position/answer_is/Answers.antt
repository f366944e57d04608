use Rattle.std.proofs.Common.{arith}
use Rattle.std.proofs.lemmas.Grind.{common_steps}
use Rattle.std.proofs.lemmas.Bool.Decides.{nat_tests}
use Rattle.recorded.specs.Answer.{answer_is}
use Rattle.recorded.proofs.Position.answer_is.Goals as goal

pub returns-then-from-values : goal.returns-then-from-values
unfolding answer_is
returns-then-from-values c = grind (arith, common_steps, nat_tests)

pub returns-else-from-values : goal.returns-else-from-values
unfolding answer_is
returns-else-from-values c = grind (arith, common_steps, nat_tests)
