-- `why_told` goes by the length of the part, and then by the call.
-- Equal numbers and values come from equal answers, so the call's answer has the definition's line.
use native.Mathlib.Omega.{arith}
use Rattle.grounds.proofs.Saying.{said-long, refused-why-long, said_read, refused-why-read}
use Rattle.grounds.proofs.why_told.Goals as goal

pub returns-then-octets-gt-MOST_LISTED : goal.returns-then-octets-gt-MOST_LISTED
returns-then-octets-gt-MOST_LISTED c = (said-long c.args.number c.args.option c.args.octets.now c.args.element (omega arith), refused-why-long c.args.number c.args.option c.args.octets.now c.args.element (omega arith))

pub returns : goal.returns
returns c = (said_read c.args.number c.args.option c.args.octets.now c.args.element c.why_set_aside_by.result (omega arith) c.why_set_aside_by.ensures, refused-why-read c.args.number c.args.option c.args.octets.now c.args.element c.why_set_aside_by.result (omega arith) c.why_set_aside_by.ensures)
