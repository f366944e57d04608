-- By whether the word has an octet.
use Rattle.std.proofs.Common.{arith, ◌∙◌}
use Rattle.arguments.proofs.Numbers.{of_empty, of_more}
use Rattle.arguments.proofs.number_of.Goals as goal

pub returns-in-empty : goal.returns-in-empty
returns-in-empty c = of_empty c.args.word.now (omega arith)

pub returns-in_default : goal.returns-in_default
returns-in_default c = c.digits.ensures ∙ of_more c.args.word.now (omega arith)
