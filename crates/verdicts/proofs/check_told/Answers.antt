-- `check_told` goes by the length of the part, and then by the call.
-- Each way out is a case of the definition.
use native.Mathlib.Omega.{arith}
use mathlib.Core.Path.{◌∙◌}
use Rattle.verdicts.proofs.Checked.{telling-long, telling-read}
use Rattle.verdicts.proofs.check_told.Goals as goal

pub returns-then-octets-gt-MOST_LISTED : goal.returns-then-octets-gt-MOST_LISTED
returns-then-octets-gt-MOST_LISTED c = telling-long c.args.number c.args.octets.now (omega arith)

pub returns : goal.returns
returns c = c.check_part_by.ensures ∙ telling-read c.args.number c.args.octets.now (omega arith)
