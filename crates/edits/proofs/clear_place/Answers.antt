-- `clear_place` makes the checks of the rows and the place, then stores zeros.
-- A refusal is the definition's; behind the checks the row is among the rows.
use Prim.Native.Nat.{◌+◌, ◌*◌}
use native.Mathlib.Omega.{arith}
use mathlib.Core.Path.{refl, ap, sym, ◌∙◌}
use borrow.Author.Tests.{le-leb}
use lib.ListN.{length}
use Rattle.std.proofs.lemmas.Result.{err_from_is_err_and}
use Rattle.definitions.specs.Basic.{content}
use Rattle.definitions.specs.Rows.{rows_of}
use Rattle.definitions.proofs.TableLaws.{few-places}
use Rattle.kept.specs.Kept.{used_of}
use Rattle.rows.specs.Lent.{put_row}
use Rattle.values.specs.Rows.{sources_of}
use Rattle.values.specs.Checks.{place_check_as, long_with}
use Rattle.values.proofs.Checking.{Checked, checked}
use Rattle.edits.proofs.Editing.{edits-by, refused, error_same, clear-refused, clear-passed}
use Rattle.edits.proofs.clear_place.Goals as goal
use Rattle.edits.proofs.clear_place.Goals.{In_ok-check_place}

-- what holds behind the checks
there : (c : In_ok-check_place) → let a = c.args in Checked (rows_of a.table.now) (long_with a.received.now (used_of a.set.now a.used) 0) (sources_of a.received.now (content (used_of a.set.now a.used))) a.rows.now a.place
there c = let a = c.args in checked (rows_of a.table.now) (long_with a.received.now (used_of a.set.now a.used) 0) (sources_of a.received.now (content (used_of a.set.now a.used))) a.rows.now a.place (sym c.check_place.ensures ∙ ap place_check_as c.in_ok-check_place.was)

pub returns-in_err-check_place : goal.returns-in_err-check_place
returns-in_err-check_place c =
    let a = c.args in
    let p = err_from_is_err_and c.from_residual.result c.from_residual.ensures.1 in
    rw (p.1, p.2) (refused (clear-refused a.table.now a.rows.now a.received.now (used_of a.set.now a.used) a.place (sym c.check_place.ensures ∙ ap place_check_as c.in_err-check_place.was)) (error_same c.in_err-check_place.field-0.0))

pub overflow_mul-place : goal.overflow_mul-place
overflow_mul-place c = let k = there (goal.at.overflow_mul-place c).In_ok-check_place in omega (arith, k.inside, few-places (rows_of c.args.table.now) k.roomy-is.passes)

pub returns : goal.returns
unfolding put_row
returns c =
    let a = c.args in
    let k = there (goal.at.returns c).In_ok-check_place in
    edits-by (clear-passed a.table.now a.rows.now a.received.now (used_of a.set.now a.used) a.place (sym c.check_place.ensures ∙ ap place_check_as c.in_ok-check_place.was))
    (record { answers = refl; rows_are = c.put_row.ensures ∙ rw (le-leb (4 * a.place + 4) (length a.rows.now) (omega (arith, k.inside, k.roomy-is.room))) refl; set_is = refl })
