-- `first` is the first octet of a value, or 0.
-- Past the end there is 0.
use native.Mathlib.Omega.{arith}
use mathlib.Core.Path.{sym}
use lib.ListN.{get_or-eq_default}
use Rattle.mandatory_writing.proofs.row.first.Goals as goal

pub returns-then-value-eq0 : goal.returns-then-value-eq0
returns-then-value-eq0 c = sym (get_or-eq_default c.args.value.now 0 (omega arith))
