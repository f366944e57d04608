-- `show` makes the checks that calls on a place share, then shows the row.
-- A refusal is the definition's; behind the checks the row decides.
use mathlib.Core.Path.{◌≡◌, refl, ap, sym, ◌∙◌}
use Rattle.std.specs.Prelude.{Err}
use Rattle.std.proofs.lemmas.Result.{err_from_is_err_and}
use Rattle.definitions.specs.Basic.{content}
use Rattle.kept.specs.Kept.{used_of}
use Rattle.values.specs.Checks.{place_check_as, error_as}
use Rattle.values.specs.Shows.{show_error, shown_as}
use Rattle.values.specs.declared.check.PlaceError.{PlaceError}
use Rattle.values.proofs.Showing.{show-refused, show-good}
use Rattle.values.proofs.show.show.Goals as goal

pub returns : goal.returns
unfolding content
returns c =
    let a = c.args in
    c.show_row.ensures
    ∙ rw (c.form_at.ensures, c.row_at.ensures, c.part.ensures.result_value) (sym (show-good a.table.now a.rows.now a.received.now (used_of a.set.now a.used) a.place (sym c.check_place.ensures ∙ ap place_check_as c.in_ok-check_place.was)))

-- a refusal is told as the checks tell it
same-refusal : (e : PlaceError) → shown_as (Err (show_error e)) ≡ error_as e
same-refusal (PlaceError.BadTable k) = refl
same-refusal PlaceError.TooLong = refl
same-refusal PlaceError.NoRoom = refl
same-refusal PlaceError.Malformed = refl

pub returns-in_err-check_place : goal.returns-in_err-check_place
returns-in_err-check_place c =
    let a = c.args in
    let p = err_from_is_err_and c.from_residual.result c.from_residual.ensures.1 in
    rw (p.1, p.2) (same-refusal c.in_err-check_place.field-0.0 ∙ sym (show-refused a.table.now a.rows.now a.received.now (used_of a.set.now a.used) a.place (sym c.check_place.ensures ∙ ap place_check_as c.in_err-check_place.was)))
