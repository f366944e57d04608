use Rattle.std.proofs.Common.{rules}
use Rattle.recorded.specs.Format.{octet_in}
use Rattle.recorded.proofs.Laws.{given}
use Rattle.recorded.proofs.Position.string.Goals as goal

pub returns : goal.returns
returns c =
    let a = c.args.self in
    given _ _ (octet_in a.at a.list.now) (λ i y q k. search rules) 70000 _ c.from_fn.ensures.items
