-- `entry_like` is `entry_at`: where the entry is as expected, `is_like` says which it is.
use mathlib.Core.Path.{ap, sym}
use Rattle.kept.specs.Kept.{count_of}
use Rattle.kept.proofs.entry_like.Goals as goal

pub returns-then-is_like : goal.returns-then-is_like
returns-then-is_like c = ap count_of (sym (c.is_like.ensures.like c.if-is_like.true))
