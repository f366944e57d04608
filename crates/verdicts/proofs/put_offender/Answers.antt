-- `put_offender` goes by the table that the number names.
-- That table is the definitions'; a part with an offender is within the limit and read whole.
use mathlib.Core.Path.{sym}
use Rattle.wording.proofs.Puts.{at-text, put-none}
use Rattle.verdicts.proofs.Checked.{offends-in, line-of-table}
use Rattle.verdicts.proofs.put_offender.Goals as goal

pub put_line_at-requires : goal.put_line_at-requires
put_line_at-requires c = (offends-in c.args.number c.args.octets.now c.requires.1 c.in-Some.ensures.0, c.requires.0)

pub returns-in-Some : goal.returns-in-Some
returns-in-Some c = at-text (sym (line-of-table c.args.number c.args.octets.now c.args.at c.in-Some.ensures.0)) c.put_line_at.ensures

pub returns-in-None : goal.returns-in-None
returns-in-None c = at-text (sym (line-of-table c.args.number c.args.octets.now c.args.at c.in-None.ensures)) (put-none c.args.out.now c.args.used)
