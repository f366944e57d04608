-- `aside_entry` is the entry of an octet.
-- Each arm names the octet.
use mathlib.Core.Path.{ap, sym}
use native.Mathlib.Omega.{arith}
use Rattle.definitions.proofs.Orders.{aside_by, aside-late}
use Rattle.order.proofs.aside_entry.Goals as goal

pub returns-in-1 : goal.returns-in-1
unfolding aside_by
returns-in-1 c = sym (ap aside_by c.in-1.is)

pub returns-in-2 : goal.returns-in-2
unfolding aside_by
returns-in-2 c = sym (ap aside_by c.in-2.is)

pub returns-in-3 : goal.returns-in-3
unfolding aside_by
returns-in-3 c = sym (ap aside_by c.in-3.is)

pub returns-in_default : goal.returns-in_default
returns-in_default c = sym (aside-late c.args.x (omega arith))
