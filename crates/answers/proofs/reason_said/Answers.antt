-- `reason_said` gives the number and the values of a reason.
-- Each arm names the case; its values are put by the call.
use Rattle.definitions.specs.Logs.{order_entry}
use Rattle.answers.proofs.reason_said.Goals as goal

pub returns-in-Malformed : goal.returns-in-Malformed
unfolding order_entry
returns-in-Malformed c = rw c.in-Malformed.is c.one.ensures

pub returns-in-Repeated : goal.returns-in-Repeated
unfolding order_entry
returns-in-Repeated c = rw c.in-Repeated.is c.one-in-Repeated.ensures

pub returns-in-OutOfSequence : goal.returns-in-OutOfSequence
unfolding order_entry
returns-in-OutOfSequence c = rw c.in-OutOfSequence.is c.one-in-OutOfSequence.ensures
