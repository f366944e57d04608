-- `reason_octet` is the octet of a reason.
-- Each arm names the reason's case.
use mathlib.Core.Path.{ap, sym}
use lib.ListN.{get_or}
use Rattle.definitions.specs.Logs.{order_entry, ignored}
use Rattle.order.specs.Order.{reason_as}
use Rattle.order.specs.declared.IgnoredIeReason.{IgnoredIeReason}
use Rattle.order.proofs.reason_octet.Goals as goal

pub returns-in-Malformed : goal.returns-in-Malformed
unfolding order_entry
returns-in-Malformed c = ap (λ (p : IgnoredIeReason). get_or (order_entry (ignored (reason_as p))) 0 0) (sym c.in-Malformed.is)

pub returns-in-Repeated : goal.returns-in-Repeated
unfolding order_entry
returns-in-Repeated c = ap (λ (p : IgnoredIeReason). get_or (order_entry (ignored (reason_as p))) 0 0) (sym c.in-Repeated.is)

pub returns-in-OutOfSequence : goal.returns-in-OutOfSequence
unfolding order_entry
returns-in-OutOfSequence c = ap (λ (p : IgnoredIeReason). get_or (order_entry (ignored (reason_as p))) 0 0) (sym c.in-OutOfSequence.is)
