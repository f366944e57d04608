-- `taken_by` is the row's own rule: the least length, then the value rule.
-- The header is that of the form that the row's numbers say.
use native.Mathlib.Omega.{arith}
use mathlib.Core.Path.{◌≡◌, ap, sym, ◌∙◌}
use Rattle.definitions.specs.Rows.{form}
use Rattle.definitions.specs.Length.{header}
use Rattle.definitions.proofs.Lists.{to_end}
use Rattle.rows.specs.Numbers.{row_said}
use Rattle.elements.proofs.Frames.{too_short, long-enough}
use Rattle.elements.proofs.element.taken_by.Goals as goal
use Rattle.elements.proofs.element.taken_by.Goals.{After-header-h}

pub returns-then-element-row : goal.returns-then-element-row
returns-then-element-row c = let a = c.args in sym (too_short (row_said a.row) a.element.now (omega arith))

-- the octets before the value
headed : (c : After-header-h) → c.header-h.result ≡ header (form (row_said c.args.row))
unfolding form
headed c =
    c.header-h.ensures ∙ ap header c.form_of.ensures

pub slice_bounds-receivable-count : goal.slice_bounds-receivable-count
slice_bounds-receivable-count c =
    omega (arith, headed (goal.at.slice_bounds-receivable-count c).After-header-h, c.requires)

pub slice_bounds-receivable-start : goal.slice_bounds-receivable-start
slice_bounds-receivable-start c =
    omega (arith, headed (goal.at.slice_bounds-receivable-start c).After-header-h, c.requires)

pub returns : goal.returns
returns c =
    let a = c.args in
    rw (long-enough (row_said a.row) a.element.now (omega arith), ← headed (goal.at.returns c).After-header-h) (rw to_end at c.receivable.ensures)
