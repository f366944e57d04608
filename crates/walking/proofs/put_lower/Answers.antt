-- `put_lower` writes nothing where no place is added.
-- The rest is `put_added`'s.
use Prim.Native.Nat.{◌-◌}
use mathlib.Core.Path.{sym, ◌∙◌}
use borrow.Author.Tests.{eqb-true}
use Rattle.seen.specs.Seen.{set_of}
use Rattle.placing.specs.Pieces.{lent_of}
use Rattle.walking.specs.Walks.{laid_at}
use Rattle.walking.proofs.Runs.{added_none}
use Rattle.walking.proofs.put_lower.Goals as goal

pub returns-then-is_empty : goal.returns-then-is_empty
returns-then-is_empty c = let a = c.args in record { is = sym (added_none (lent_of a.table.now a.rows.now a.received.now a.set.now) (eqb-true (set_of a.added) 0 (sym c.is_empty.ensures ∙ c.if-is_empty.true)) a.from (a.to - a.from) (laid_at a.at a.output.now)) }
