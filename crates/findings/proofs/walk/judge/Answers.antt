-- `judge` judges an entry by its sort.
-- Each arm names the entry; the call judges it.
use Rattle.findings.proofs.walk.judge.Goals as goal

pub returns-in-Known : goal.returns-in-Known
returns-in-Known c = rw c.in-Known.is c.judge_known.ensures

pub returns-in-Unknown : goal.returns-in-Unknown
returns-in-Unknown c = rw c.in-Unknown.is c.judge_unknown.ensures

pub returns-in-Ignored : goal.returns-in-Ignored
returns-in-Ignored c = rw c.in-Ignored.is c.judge_ignored.ensures
