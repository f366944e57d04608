-- `check_place` makes the checks before the rows, then looks at the rows and the place.
-- A refusal before them stands.
use mathlib.Core.Path.{◌≡◌, ap, sym, ◌∙◌}
use Rattle.std.proofs.lemmas.Result.{err_from_is_err_and}
use Rattle.definitions.specs.Basic.{content}
use Rattle.definitions.specs.Rows.{rows_of}
use Rattle.definitions.specs.Values.{bad_place}
use Rattle.kept.specs.Kept.{used_of}
use Rattle.values.specs.Rows.{sources_of}
use Rattle.values.specs.Checks.{place_check_as, long_with}
use Rattle.values.proofs.Checking.{check-refused, check-bad, check-good}
use Rattle.values.proofs.check.check_place.Goals as goal
use Rattle.values.proofs.check.check_place.Goals.{After-bad_place}

-- what the rows and the place say
place_is : (c : After-bad_place) → bad_place (rows_of c.args.table.now) (sources_of c.args.received.now (content (used_of c.args.set.now c.args.used))) c.args.rows.now c.args.place ≡ c.bad_place.result
unfolding content
place_is c = sym (c.bad_place.ensures ∙ rw c.part.ensures.result_value)

pub returns-then-bad_place : goal.returns-then-bad_place
returns-then-bad_place c =
    let a = c.args in
    sym (check-bad (rows_of a.table.now) (long_with a.received.now (used_of a.set.now a.used) 0) (sources_of a.received.now (content (used_of a.set.now a.used))) a.rows.now a.place
    (sym c.check_room.ensures ∙ ap place_check_as c.in_ok-check_room.was) (place_is (goal.at.returns-then-bad_place c).After-bad_place ∙ c.if-bad_place.true))

pub returns : goal.returns
returns c =
    let a = c.args in
    sym (check-good (rows_of a.table.now) (long_with a.received.now (used_of a.set.now a.used) 0) (sources_of a.received.now (content (used_of a.set.now a.used))) a.rows.now a.place
    (sym c.check_room.ensures ∙ ap place_check_as c.in_ok-check_room.was) (place_is (goal.at.returns c).After-bad_place ∙ c.if-bad_place.false))

pub returns-in_err-check_room : goal.returns-in_err-check_room
returns-in_err-check_room c =
    let a = c.args in
    let p = err_from_is_err_and c.from_residual.result c.from_residual.ensures.1 in
    rw (p.1, p.2) (sym (check-refused (rows_of a.table.now) (long_with a.received.now (used_of a.set.now a.used) 0) (sources_of a.received.now (content (used_of a.set.now a.used))) a.rows.now a.place
    (sym c.check_room.ensures ∙ ap place_check_as c.in_err-check_room.was)))
