-- `asides` is the position of the first 0, or the whole length: none before it is 0.
use Prim.Native.Nat.{◌≤◌}
use mathlib.Core.Path.{◌≡◌}
use borrow.Author.Tests.{tests}
use Rattle.std.proofs.Common.{rules}
use Rattle.std.proofs.lemmas.Iterator.{YieldsList-from_slice, IsFirst-from_position}
use Rattle.walking.proofs.Runs.{aside-by}
use Rattle.walking.proofs.asides.Goals as goal

pub returns : goal.returns
returns c =
    let s = c.args.order.now in
    let f = IsFirst-from_position _ _ c.position.result (λ x. x ≡ 0) (λ x. 1 ≤ x) c.position.ensures.ran (YieldsList-from_slice s cc) (λ x q k. search (rules, tests)) (λ x q k. search (rules, tests)) in
    rw c.unwrap_or.ensures (aside-by s c.position.result f)
