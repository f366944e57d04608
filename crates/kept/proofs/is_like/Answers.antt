-- `is_like` says yes where the first octet is the number and the log has the element behind it.
-- Of a yes it says which entry stands there.
use native.Mathlib.Omega.{arith}
use borrow.Author.Tests.{eqb-true}
use Rattle.kept.proofs.Counts.{entry-like}
use Rattle.kept.proofs.is_like.Goals as goal

pub returns-clause-like : goal.returns-clause-like
returns-clause-like c = λ q. entry-like c.args.s.now c.args.n (omega arith) (omega arith) (omega arith) (eqb-true _ _ q)
