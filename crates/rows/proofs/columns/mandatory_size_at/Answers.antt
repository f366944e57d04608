-- `mandatory_size_at` is a number of the row that stands there.
-- The law of row k, at this column.
use mathlib.Core.Path.{ap, sym, ◌∙◌}
use Rattle.definitions.specs.Mandatory.{MandatoryRow}
use Rattle.definitions.proofs.TableLaws.{mandatory-at}
use Rattle.rows.proofs.columns.mandatory_size_at.Goals as goal

pub returns : goal.returns
returns c = let a = c.args in c.number_at.ensures ∙ ap (λ (r : MandatoryRow). r.size) (sym (mandatory-at a.table.now a.row))
