-- `judge` is the definition's verdict.
-- Each way out has the tests that decide it.
use Rattle.definitions.specs.Elements.{judged}
use Rattle.elements.proofs.element.judge.Goals as goal

pub returns-then-again : goal.returns-then-again
unfolding judged
returns-then-again c = rw c.if-again.true

pub returns-then-taken : goal.returns-then-taken
unfolding judged
returns-then-taken c = rw (c.if-again.false, c.if-behind.true, c.if-option.true, c.if-taken.true)

pub returns-else-taken : goal.returns-else-taken
unfolding judged
returns-else-taken c = rw (c.if-again.false, c.if-behind.true, c.if-option.true, c.if-taken.false)

pub returns-else-option : goal.returns-else-option
unfolding judged
returns-else-option c = rw (c.if-again.false, c.if-behind.true, c.if-option.false)

pub returns-then-taken-2 : goal.returns-then-taken-2
unfolding judged
returns-then-taken-2 c = rw (c.if-again.false, c.if-behind.false, c.if-taken-2.true)

pub returns : goal.returns
unfolding judged
returns c = rw (c.if-again.false, c.if-behind.false, c.if-taken-2.false)
