-- As many octets as there is room for are put; what is behind them is kept.
use native.Mathlib.Omega.{arith}
use Rattle.std.proofs.lemmas.Grind.{common_steps}
use Rattle.definitions.specs.Basic.{over}
use Rattle.copying.proofs.put_slice.Goals as goal

pub returns : goal.returns
unfolding over
returns c = grind (arith, common_steps)
