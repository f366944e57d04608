-- `mandatory_form_at` is the form of the row's code and size.
-- The two numbers are the row's.
use mathlib.Core.Path.{ap₂, ◌∙◌}
use Rattle.definitions.specs.Mandatory.{mandatory_form, mandatory_form_of}
use Rattle.rows.proofs.columns.mandatory_form_at.Goals as goal

pub returns : goal.returns
unfolding mandatory_form
returns c = c.mandatory_form_of.ensures ∙ ap₂ mandatory_form_of c.mandatory_code_at.ensures c.mandatory_size_at.ensures
