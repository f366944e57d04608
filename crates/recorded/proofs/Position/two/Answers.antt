use Rattle.std.proofs.Common.{◌∙◌, arith}
use Rattle.recorded.proofs.Laws.{no-number, number-of-two}
use Rattle.recorded.proofs.Position.two.Goals as goal

pub returns-in_default : goal.returns-in_default
returns-in_default c = let a = c.args.self in (no-number 2 a.at a.list.now c.rest.ensures c.in_default.len_below, omega arith)

pub returns : goal.returns
returns c = let a = c.args.self in (c.from.ensures ∙ number-of-two a.at a.list.now c.rest.ensures c.in-len2-up.len_at_least c.from_be_bytes.ensures, omega arith)
