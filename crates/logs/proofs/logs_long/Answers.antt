-- `logs_long` asks the order log first, and the kept log where that is not too long.
-- Each answer by the tests that led to it.
use mathlib.Core.Path.{sym, ◌∙◌}
use Rattle.logs.proofs.logs_long.Goals as goal

pub returns-then-too_long : goal.returns-then-too_long
returns-then-too_long c = rw (sym c.too_long.ensures ∙ c.if-too_long.true) c.if-too_long.true

pub returns-else-too_long : goal.returns-else-too_long
returns-else-too_long c = rw (sym c.too_long.ensures ∙ c.if-too_long.false) c.too_long-else-too_long.ensures
