-- `judge_ignored` has the kind of its reason where a kept element is left.
-- Each arm names what is left of the kept log.
use Rattle.order.specs.Order.{reason_as}
use Rattle.findings.proofs.Walked.{ignored-taken, ignored-gone}
use Rattle.findings.proofs.walk.judge_ignored.Goals as goal

pub returns-in-Some : goal.returns-in-Some
returns-in-Some c = let a = c.args in ignored-taken a.index.now a.kept.now a.w (rw c.in-Some.is at c.next_kept.ensures) c.kind_of_reason.ensures

pub returns-in-None : goal.returns-in-None
returns-in-None c = let a = c.args in rw c.without_element.ensures (ignored-gone a.index.now a.kept.now a.w c.requires (rw c.in-None.is at c.next_kept.ensures) (reason_as a.reason))
