use Rattle.std.proofs.Common.{◌≡◌, ◌+◌, ◌*◌, arith}
use Rattle.recorded.specs.Format.{after}
use Rattle.recorded.proofs.Position.number_in.Goals as goal

pub returns : goal.returns
unfolding after
returns c =
    let a = c.args in
    let p : c.after.result.at ≡ after a.self.at (2 + 4 * a.i) = omega arith in
    cc
