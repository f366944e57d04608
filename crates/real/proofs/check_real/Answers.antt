-- `check_real` is the check of the table with a number.
-- A number with no table has no row to be bad.
use mathlib.Core.Path.{sym}
use Rattle.real.proofs.Numbers.{rows-are}
use Rattle.real.proofs.RealLaws.{real}
use Rattle.real.proofs.check_real.Goals as goal

pub returns-in-Some : goal.returns-in-Some
returns-in-Some c = rw (← c.small.ensures.same_rows, rows-are c.small.result c.in-Some.table (rw c.in-Some.is at c.numbered.ensures)) c.check_table.ensures

pub returns-in-None : goal.returns-in-None
returns-in-None c = sym (real c.args.number).passes
