-- `judge_unknown` judges by the next kept element, if there is one.
-- Each arm names what is left of the kept log.
use Rattle.findings.proofs.Walked.{unknown-taken, unknown-gone}
use Rattle.findings.proofs.walk.judge_unknown.Goals as goal

pub returns-in-Some : goal.returns-in-Some
returns-in-Some c = let a = c.args in unknown-taken a.index.now a.kept.now a.w (rw c.in-Some.is at c.next_kept.ensures) c.kind_of_unknown.ensures

pub returns-in-None : goal.returns-in-None
returns-in-None c = let a = c.args in rw c.without_element.ensures (unknown-gone a.index.now a.kept.now a.w c.requires (rw c.in-None.is at c.next_kept.ensures))
