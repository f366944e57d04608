-- `long_or_short` compares the first octet with the start number alone.
-- Each branch settles that comparison.
use borrow.Author.Tests.{le-leb, lt-leb}
use Rattle.length.specs.Answers.{long_or_short}
use Rattle.length.proofs.long_or_short.Goals as goal

pub returns-then-x-tlve_start : goal.returns-then-x-tlve_start
unfolding long_or_short
returns-then-x-tlve_start c = let a = c.args in rw (lt-leb a.tlve_start a.x c.if-x-tlve_start.true) c.tlv_length.ensures

pub returns-else-x-tlve_start : goal.returns-else-x-tlve_start
unfolding long_or_short
returns-else-x-tlve_start c = let a = c.args in rw (le-leb a.tlve_start a.x c.if-x-tlve_start.false) c.tlve_length.ensures
