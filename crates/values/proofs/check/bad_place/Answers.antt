-- `bad_place` looks at every row, then at the place.
-- Both tests are the definition's.
use mathlib.Core.Path.{◌≡◌, sym, ◌∙◌}
use lib.ListN.{length}
use Rattle.definitions.specs.Rows.{rows_of}
use Rattle.definitions.specs.Values.{place_width, bad_rows, bad_place}
use Rattle.values.specs.Rows.{sources_of}
use Rattle.values.proofs.check.bad_place.Goals as goal
use Rattle.values.proofs.check.bad_place.Goals.{After-any_bad}

-- what is found of the rows
looked : (c : After-any_bad) → bad_rows place_width (sources_of c.args.received.now c.args.set.now) c.args.rows.now (length (rows_of c.args.table.now)) ≡ c.any_bad.result
looked c = sym (c.any_bad.ensures ∙ rw c.places-n.ensures)

pub returns-then-any_bad : goal.returns-then-any_bad
unfolding bad_place
returns-then-any_bad c = rw (looked (goal.at.returns-then-any_bad c).After-any_bad, c.if-any_bad.true)

pub returns-else-any_bad : goal.returns-else-any_bad
unfolding bad_place
returns-else-any_bad c = rw (looked (goal.at.returns-else-any_bad c).After-any_bad, c.if-any_bad.false, ← c.places-n.ensures)
