-- A turn goes by the front of what is left.
use Rattle.std.proofs.Common.{arith, ◌∙◌, sym}
use Rattle.arguments.proofs.Numbers.{more, no_more, at_end}
use Rattle.arguments.proofs.digits.Goals as goal

pub returns-in_err-n : goal.returns-in_err-n
returns-in_err-n c = let l = c.loop-x in c.from_residual.ensures ∙ (no_more c.args.word.now l.x-index l.n (omega arith) (sym c.with_digit.ensures ∙ c.in_err-n.was) ∙ l.invariant)

pub loop-x-preserved : goal.loop-x-preserved
loop-x-preserved c = let l = c.loop-x in more c.args.word.now l.x-index l.n c.in_ok-n.n (omega arith) (sym c.with_digit.ensures ∙ c.in_ok-n.was) ∙ l.invariant

pub returns : goal.returns
returns c = let l = c.loop-x in at_end c.args.word.now l.x-index l.n (omega arith) ∙ l.invariant
