use Rattle.std.proofs.Common.{sym, ◌∙◌}
use Rattle.recorded_rows.proofs.Comparing.{behind-by}
use Rattle.recorded_rows.proofs.behind_place.Goals as goal

pub returns-then-is_present-clause-at : goal.returns-then-is_present-clause-at
returns-then-is_present-clause-at c = c.after.ensures.at ∙ sym (behind-by _ c.if-is_present.true)

pub returns-else-is_present-clause-at : goal.returns-else-is_present-clause-at
returns-else-is_present-clause-at c = sym (behind-by _ c.if-is_present.false)
