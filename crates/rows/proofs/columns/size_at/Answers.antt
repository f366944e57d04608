-- `size_at` is a number of the row that stands at the place.
-- The law of row k, at this column.
use mathlib.Core.Path.{ap, sym, ◌∙◌}
use Rattle.definitions.specs.Rows.{Row, row_of}
use Rattle.definitions.proofs.TableLaws.{row_at_lem}
use Rattle.rows.proofs.columns.size_at.Goals as goal

pub returns : goal.returns
unfolding row_of
returns c = let a = c.args in c.number_at.ensures ∙ ap (λ (r : Row). r.size) (sym (row_at_lem a.table.now a.place))
