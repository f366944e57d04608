-- `allowed_count` is the range of a count.
-- Each arm settles the definition's tests.
use native.Mathlib.Omega.{arith}
use borrow.Author.Tests.{le-leb}
use Rattle.definitions.specs.Logs.{allowed}
use Rattle.kept.proofs.Counts.{allowed-not}
use Rattle.kept.proofs.allowed_count.Goals as goal

pub returns-in-1-to-65535 : goal.returns-in-1-to-65535
unfolding allowed
returns-in-1-to-65535 c = rw (le-leb 1 c.args.value (omega arith), le-leb c.args.value 65535 (omega arith))

pub returns-in_default : goal.returns-in_default
returns-in_default c = allowed-not c.args.value c.args.took (λ p q. omega arith)

pub returns-in_default-2 : goal.returns-in_default-2
returns-in_default-2 c = allowed-not c.args.value c.args.took (λ p q. omega arith)
