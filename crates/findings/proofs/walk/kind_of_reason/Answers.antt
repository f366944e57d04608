-- `kind_of_reason` is the kind of an entry 02, 03 or 04.
-- Each arm names the reason.
use Rattle.definitions.specs.Findings.{reason_kind}
use Rattle.findings.proofs.walk.kind_of_reason.Goals as goal

pub returns-in-Malformed : goal.returns-in-Malformed
unfolding reason_kind
returns-in-Malformed c = rw c.in-Malformed.is

pub returns-in-Repeated : goal.returns-in-Repeated
unfolding reason_kind
returns-in-Repeated c = rw c.in-Repeated.is

pub returns-in-OutOfSequence : goal.returns-in-OutOfSequence
unfolding reason_kind
returns-in-OutOfSequence c = rw c.in-OutOfSequence.is
