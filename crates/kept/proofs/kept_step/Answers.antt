-- `kept_step` passes the entry at the front of what is left.
-- The entry is the definition's, and lies within what is left, so no sum wraps.
use native.Mathlib.Omega.{arith}
use mathlib.Core.Path.{sym, ◌∙◌}
use borrow.Author.Tests.{eq-eqb, ne_eqb}
use Rattle.definitions.proofs.Lists.{to_end}
use Rattle.definitions.proofs.LogSteps.{kept-split}
use Rattle.kept.specs.Kept.{passed}
use Rattle.kept.proofs.Counts.{count-is}
use Rattle.kept.proofs.kept_step.Goals as goal
use Rattle.kept.proofs.kept_step.Goals.{then-w-want, else-w-want}

pub overflow_add-start : goal.overflow_add-start
overflow_add-start c =
    let a = c.args in
    let entry = count-is _ (sym c.in_ok-value.was ∙ rw to_end at c.entry_at.ensures) in
    let within = (kept-split a.content.now a.w.at (omega arith) entry).within in
    omega arith

pub overflow_add-result : goal.overflow_add-result
overflow_add-result c =
    let a = c.args in
    let entry = count-is _ (sym c.in_ok-value.was ∙ rw to_end at c.entry_at.ensures) in
    let within = (kept-split a.content.now a.w.at (omega arith) entry).within in
    omega arith

pub returns : goal.returns
unfolding passed
returns c =
    let a = c.args in
    let entry = count-is _ (sym c.in_ok-value.was ∙ rw to_end at c.entry_at.ensures) in
    rw entry (elim c.if-w-want.branch [
      | then-w-want w ↦ rw (w.wanted-is, eq-eqb a.w.count a.want w.if-w-want.true)
      | else-w-want w ↦ rw (w.wanted-is, ne_eqb a.w.count a.want w.if-w-want.false)
    ])
