-- `hex_digit` is by the definition's test.
-- Each way out has it.
use borrow.Author.Tests.{lt-ltb, le-ltb}
use Rattle.definitions.specs.Listing.{hex_digit}
use Rattle.wording.proofs.put.hex_digit.Goals as goal

pub returns-then-n-lt10 : goal.returns-then-n-lt10
unfolding hex_digit
returns-then-n-lt10 c = rw (lt-ltb c.args.n 10 c.if-n-lt10.true)

pub returns : goal.returns
unfolding hex_digit
returns c = rw (le-ltb c.args.n 10 c.if-n-lt10.false)
