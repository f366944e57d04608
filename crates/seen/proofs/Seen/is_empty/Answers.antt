-- `is_empty` goes by the low half, then by the high one.
-- A sum of both is 0 where both are.
use native.Mathlib.Omega.{arith}
use borrow.Author.Tests.{ne_eqb}
use mathlib.Core.Path.{◌∙◌}
use Rattle.seen.proofs.Sets.{none-high, not_none}
use Rattle.seen.proofs.Seen.is_empty.Goals as goal

pub returns-then-self-eq0 : goal.returns-then-self-eq0
returns-then-self-eq0 c = none-high c.args.self.high c.args.self.low (omega arith)

pub returns-else-self-eq0 : goal.returns-else-self-eq0
returns-else-self-eq0 c = ne_eqb c.args.self.low 0 (omega arith) ∙ not_none c.args.self.high c.args.self.low (omega arith)
