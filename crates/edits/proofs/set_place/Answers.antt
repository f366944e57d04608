-- `set_place` makes the checks before the rows, with the new value's octets and the log, then sets the value by the log.
-- A refusal is the definition's; behind these checks all is within its limit.
use Prim.Native.Nat.{◌≤◌}
use native.Mathlib.Omega.{arith}
use mathlib.Core.Path.{◌≡◌, ap, sym, ◌∙◌}
use mathlib.Core.Bool.{◌||◌}
use lib.ListN.{length, length-take}
use Rattle.std.proofs.lemmas.Result.{err_from_is_err_and}
use Rattle.definitions.specs.Basic.{refusal, content, too_long, most_log}
use Rattle.definitions.specs.Rows.{rows_of}
use Rattle.definitions.specs.Values.{room_checks}
use Rattle.definitions.proofs.Checks.{neither}
use Rattle.kept.specs.Kept.{used_of}
use Rattle.values.specs.Checks.{place_check_as, long_with}
use Rattle.values.proofs.Checking.{Roomy, roomy, short-of}
use Rattle.edits.proofs.Editing.{edits-by, refused, error_same, set-refused, set-passed, log-within}
use Rattle.edits.proofs.set_place.Goals as goal
use Rattle.edits.proofs.set_place.Goals.{After-check_room, In_ok-check_room}

-- the checks before the rows
said : (c : After-check_room) → let a = c.args in refusal (room_checks (rows_of a.table.now) (too_long most_log (used_of a.order.now a.order_used) || long_with a.received.now (used_of a.set.now a.used) (length a.value.now)) a.rows.now) ≡ place_check_as c.check_room.result
said c = sym (rw c.too_long-long.ensures at c.check_room.ensures)

-- what holds behind them
room-is : (c : In_ok-check_room) → let a = c.args in Roomy (rows_of a.table.now) (too_long most_log (used_of a.order.now a.order_used) || long_with a.received.now (used_of a.set.now a.used) (length a.value.now)) a.rows.now
room-is c = let a = c.args in roomy (rows_of a.table.now) (too_long most_log (used_of a.order.now a.order_used) || long_with a.received.now (used_of a.set.now a.used) (length a.value.now)) a.rows.now (sym (rw c.too_long-long.ensures at c.check_room.ensures) ∙ ap place_check_as c.in_ok-check_room.was)

within : (c : In_ok-check_room) → let a = c.args in (a.order_used ≤ length a.order.now) × (a.order_used ≤ 131070)
within c = let a = c.args in log-within a.order.now a.order_used (neither (too_long most_log (used_of a.order.now a.order_used)) (long_with a.received.now (used_of a.set.now a.used) (length a.value.now)) (room-is c).not-long).0

pub returns-in_err-check_room : goal.returns-in_err-check_room
returns-in_err-check_room c =
    let a = c.args in
    let p = err_from_is_err_and c.from_residual.result c.from_residual.ensures.1 in
    rw (p.1, p.2) (refused (set-refused a.table.now a.rows.now a.received.now (used_of a.set.now a.used) (used_of a.order.now a.order_used) a.place a.value.now (said (goal.at.returns-in_err-check_room c).After-check_room ∙ ap place_check_as c.in_err-check_room.was)) (error_same c.in_err-check_room.field-0.0))

pub slice_bounds-set_logged-end : goal.slice_bounds-set_logged-end
slice_bounds-set_logged-end c = let w = within (goal.at.slice_bounds-set_logged-end c).In_ok-check_room in simp length-take (omega arith)

pub set_logged-requires : goal.set_logged-requires
set_logged-requires c =
    let a = c.args in
    let r = room-is (goal.at.set_logged-requires c).In_ok-check_room in
    let w = within (goal.at.set_logged-requires c).In_ok-check_room in
    let s = short-of a.received.now (used_of a.set.now a.used) (length a.value.now) (neither (too_long most_log (used_of a.order.now a.order_used)) (long_with a.received.now (used_of a.set.now a.used) (length a.value.now)) r.not-long).1 in
    record { passes = r.passes; room = r.room; within = s.within; short = s.short; log-short = simp length-take (omega arith) }

pub returns : goal.returns
unfolding content
returns c =
    let a = c.args in edits-by (set-passed a.table.now a.rows.now a.received.now (used_of a.set.now a.used) (used_of a.order.now a.order_used) a.place a.value.now (said (goal.at.returns c).After-check_room ∙ ap place_check_as c.in_ok-check_room.was)) c.set_logged.ensures
