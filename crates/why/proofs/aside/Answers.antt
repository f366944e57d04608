-- `aside` goes by the reason.
-- Each arm names what it was.
use mathlib.Core.Path.{ap}
use Rattle.why.specs.declared.Why.{Why}
use Rattle.why.proofs.aside.Goals as goal

pub returns-in-Malformed : goal.returns-in-Malformed
returns-in-Malformed c = rw c.in-Malformed.is (ap Why.Malformed c.fault_in.ensures)

pub returns-in-Repeated : goal.returns-in-Repeated
returns-in-Repeated c = rw c.in-Repeated.is (ap Why.Repeated c.start_of.ensures)

pub returns-in-OutOfSequence : goal.returns-in-OutOfSequence
returns-in-OutOfSequence c = rw c.in-OutOfSequence.is (ap Why.OutOfSequence c.start_of-in-OutOfSequence.ensures)
