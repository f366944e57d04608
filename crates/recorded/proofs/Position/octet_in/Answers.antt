use Rattle.std.proofs.Common.{◌≡◌, ◌+◌, ◌<◌, ◌≤◌, arith, lt-ltb, le-ltb}
use Rattle.recorded.specs.Format.{after, number_from}
use Rattle.recorded.proofs.Position.octet_in.Goals as goal

pub returns-then-i-two : goal.returns-then-i-two
unfolding after
returns-then-i-two c =
    let a = c.args in
    let l : a.i < number_from 2 a.self.at a.self.list.now = omega arith in
    let p : c.after.result.at ≡ after a.self.at (2 + a.i) = omega arith in
    rw (lt-ltb a.i (number_from 2 a.self.at a.self.list.now) l) cc

pub returns-else-i-two : goal.returns-else-i-two
returns-else-i-two c =
    let a = c.args in
    let l : number_from 2 a.self.at a.self.list.now ≤ a.i = omega arith in
    rw (le-ltb a.i (number_from 2 a.self.at a.self.list.now) l) cc
