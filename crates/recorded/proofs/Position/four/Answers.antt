use Rattle.recorded.proofs.Laws.{no-number, number-of-four}
use Rattle.recorded.proofs.Position.four.Goals as goal

pub returns-in_default : goal.returns-in_default
returns-in_default c = let a = c.args.self in no-number 4 a.at a.list.now c.rest.ensures c.in_default.len_below

pub returns : goal.returns
returns c = let a = c.args.self in number-of-four a.at a.list.now c.rest.ensures c.in-len4-up.len_at_least c.from_be_bytes.ensures
