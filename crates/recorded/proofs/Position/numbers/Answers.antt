use Rattle.std.proofs.Common.{rules}
use Rattle.recorded.specs.Format.{number_in}
use Rattle.recorded.proofs.Laws.{given}
use Rattle.recorded.proofs.Position.numbers.Goals as goal

pub returns : goal.returns
returns c =
    let a = c.args.self in
    given _ _ (number_in a.at a.list.now) (λ i y q k. search rules) 256 _ c.from_fn.ensures.items
