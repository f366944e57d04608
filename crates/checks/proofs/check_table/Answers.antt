-- `check_table` is the first bad row: its array begins with nothing entered.
-- Checking the rows with it is the check of the definitions.
use mathlib.Core.Path.{◌∙◌}
use Rattle.checks.proofs.BadRows.{bad-rows}
use Rattle.checks.proofs.check_table.Goals as goal

pub returns : goal.returns
returns c = c.check_rows.ensures.0 ∙ bad-rows _
