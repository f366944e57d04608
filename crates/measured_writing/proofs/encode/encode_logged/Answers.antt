-- `encode_logged` asks the order log, then the kept log, and writes by two that are well formed.
-- Each way out cites the law of its check.
use mathlib.Core.Path.{sym, ◌∙◌}
use Rattle.logs.proofs.Formed.{kept-not}
use Rattle.measured_writing.proofs.Encoding.{no-order, no-kept}
use Rattle.measured_writing.proofs.encode.encode_logged.Goals as goal

pub logged_len-requires : goal.logged_len-requires
logged_len-requires c = (c.requires.sized, c.requires.order-short)

pub encode_formed-requires : goal.encode_formed-requires
encode_formed-requires c = (c.requires, c.in-Some.ensures, c.in-Some-kept_len.ensures)

pub returns-in_default : goal.returns-in_default
returns-in_default c = let a = c.args in no-order a.table.now a.index.now a.rows.now a.received.now a.set.now a.kept.now a.order.now a.output.now c.requires c.in_default.ensures

pub returns-in_default-kept_len : goal.returns-in_default-kept_len
returns-in_default-kept_len c = let a = c.args in let l = c.in-Some.ensures in no-kept a.table.now a.index.now a.rows.now a.received.now a.set.now a.kept.now a.order.now a.output.now c.requires l.tells.ps l.tells.is (kept-not a.kept.now c.in_default-kept_len.ensures)
