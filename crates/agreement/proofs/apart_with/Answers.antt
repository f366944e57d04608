-- `apart_with` judges a row where none was found to disagree and its place was not seen.
-- Each test is the definition's.
use mathlib.Core.Path.{ap, ◌∙◌}
use Rattle.definitions.specs.Values.{unlike}
use Rattle.agreement.specs.Agreed.{apart_by}
use Rattle.agreement.proofs.apart_with.Goals as goal

pub returns-then-apart : goal.returns-then-apart
returns-then-apart c = rw c.if-apart.true

pub returns-then-has : goal.returns-then-has
unfolding apart_by
returns-then-has c = rw (c.if-apart.false, ← c.has.ensures, c.if-has.true)

pub returns : goal.returns
unfolding apart_by
returns c = let a = c.args in rw (c.if-apart.false, ← c.has.ensures, c.if-has.false) (c.is_unlike.ensures ∙ ap (λ v. unlike v a.iei) c.row_at.ensures)
