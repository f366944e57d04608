-- `check_room` checks the table first.
-- The rest is `rows_room`.
use mathlib.Core.Path.{ap, sym, ◌∙◌}
use mathlib.Core.Bool.{◌||◌}
use Rattle.std.proofs.lemmas.Result.{err_from_is_err_and}
use Rattle.definitions.specs.Rows.{rows_of}
use Rattle.kept.specs.Kept.{used_of}
use Rattle.checks.specs.Answers.{checked_as}
use Rattle.values.specs.Checks.{long_with}
use Rattle.values.proofs.Checking.{check-table}
use Rattle.values.proofs.check.check_room.Goals as goal

pub rows_room-requires : goal.rows_room-requires
rows_room-requires c = sym c.check_table.ensures ∙ ap checked_as c.in_ok-check_table.was

pub returns-in_err-check_table : goal.returns-in_err-check_table
returns-in_err-check_table c =
    let a = c.args in
    let p = err_from_is_err_and c.from_residual.result c.from_residual.ensures.1 in
    rw (p.1, p.2) (sym (check-table (rows_of a.table.now) (a.long || long_with a.received.now (used_of a.set.now a.used) a.more) a.rows.now (sym c.check_table.ensures ∙ ap checked_as c.in_err-check_table.was)))
