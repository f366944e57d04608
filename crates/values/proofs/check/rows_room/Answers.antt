-- `rows_room` makes the checks behind the table's, up to the rows.
-- Each way out cites the law of its check.
use native.Mathlib.Omega.{arith}
use mathlib.Core.Path.{sym}
use mathlib.Core.Bool.{◌||◌}
use Rattle.definitions.specs.Rows.{rows_of}
use Rattle.definitions.proofs.TableLaws.{few-places}
use Rattle.kept.specs.Kept.{used_of}
use Rattle.values.specs.Checks.{long_with}
use Rattle.values.proofs.Checking.{check-long, check-short, check-room}
use Rattle.values.proofs.check.rows_room.Goals as goal
use Rattle.values.proofs.check.rows_room.Goals.{then-long-via-then-long, then-long-via-else-long+then-too_long}

pub returns-then-long : goal.returns-then-long
returns-then-long c =
    let a = c.args in
    sym (check-long (rows_of a.table.now) (a.long || long_with a.received.now (used_of a.set.now a.used) a.more) a.rows.now c.requires (elim c.then-long.branch [
      | then-long-via-then-long w ↦ rw w.if-long.true
      | then-long-via-else-long+then-too_long w ↦ rw (w.if-long.false, ← w.too_long.ensures, w.if-too_long.true)
    ]))

pub overflow_mul-places : goal.overflow_mul-places
overflow_mul-places c = let a = c.args in omega (arith, c.places.ensures, few-places (rows_of a.table.now) c.requires)

pub returns-then-rows-places : goal.returns-then-rows-places
returns-then-rows-places c = let a = c.args in sym (check-short (rows_of a.table.now) (a.long || long_with a.received.now (used_of a.set.now a.used) a.more) a.rows.now c.requires (rw (c.if-long.false, ← c.too_long.ensures, c.if-too_long.false)) (omega (arith, c.places.ensures)))

pub returns : goal.returns
returns c = let a = c.args in sym (check-room (rows_of a.table.now) (a.long || long_with a.received.now (used_of a.set.now a.used) a.more) a.rows.now c.requires (rw (c.if-long.false, ← c.too_long.ensures, c.if-too_long.false)) (omega (arith, c.places.ensures)))
