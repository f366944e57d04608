use Rattle.std.proofs.Common.{arith}
use Rattle.recorded.specs.Format.{after}
use Rattle.recorded.proofs.after.Goals as goal

pub returns : goal.returns
unfolding after
returns c = omega arith
