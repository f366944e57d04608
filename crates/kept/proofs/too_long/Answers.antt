-- `too_long` makes the two tests of the definition.
-- Where the first does not hold, what is left of the definition is the second.
use mathlib.Core.Path.{sym, ◌∙◌}
use borrow.Author.Tests.{le-ltb, lt-ltb}
use lib.ListN.{length}
use Rattle.definitions.specs.Basic.{too_long}
use Rattle.definitions.proofs.Logs.{past-buffer}
use Rattle.kept.specs.Kept.{used_of}
use Rattle.kept.proofs.too_long.Goals as goal

pub returns-then-used-buffer : goal.returns-then-used-buffer
returns-then-used-buffer c = let a = c.args in lt-ltb (length a.buffer.now) a.used c.if-used-buffer.true ∙ sym (past-buffer a.most (used_of a.buffer.now a.used) c.if-used-buffer.true)

pub returns-else-used-buffer : goal.returns-else-used-buffer
unfolding too_long
returns-else-used-buffer c = let a = c.args in rw (le-ltb (length a.buffer.now) a.used c.if-used-buffer.false)
