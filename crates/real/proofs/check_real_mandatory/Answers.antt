-- `check_real_mandatory` is the check of the mandatory rows with a number.
-- A number with no table has no row to be bad.
use mathlib.Core.Path.{sym}
use Rattle.real.proofs.Numbers.{mandatory-rows-are}
use Rattle.real.proofs.RealLaws.{real-mandatory}
use Rattle.real.proofs.check_real_mandatory.Goals as goal

pub returns-in-Some : goal.returns-in-Some
returns-in-Some c = rw (← c.small.ensures.same_mandatory, mandatory-rows-are c.small.result c.in-Some.rows (rw c.in-Some.is at c.mandatory.ensures)) c.check_mandatory_table.ensures

pub returns-in-None : goal.returns-in-None
returns-in-None c = sym (real-mandatory c.args.number)
