-- `encode_optional_ies` writes in one pass where that does, and else what is measured first.
-- Where the first gave up the output is as it was.
use Rattle.writing.proofs.encode_optional_ies.Goals as goal

pub returns-in-Some : goal.returns-in-Some
returns-in-Some c = c.pass_lent.ensures.done _ c.in-Some.is

pub returns-in-None : goal.returns-in-None
returns-in-None c = rw (c.pass_lent.ensures.not_done c.in-None.is) at c.encode_measured.ensures
