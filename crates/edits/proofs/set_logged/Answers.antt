-- `set_logged` judges the log, the rows and the place, the rows beside the log, and sets the value.
-- Each way out cites the law of its check.
use native.Mathlib.Omega.{arith}
use mathlib.Core.Bool.{false}
use mathlib.Core.Path.{◌≡◌, refl, sym, ◌∙◌}
use Rattle.definitions.specs.Basic.{is_none, content}
use Rattle.definitions.specs.Rows.{rows_of}
use Rattle.definitions.specs.Logs.{order_list}
use Rattle.definitions.specs.Values.{bad_place}
use Rattle.kept.specs.Kept.{used_of}
use Rattle.values.specs.Rows.{sources_of}
use Rattle.values.proofs.Checking.{place_inside}
use Rattle.edits.proofs.Logged.{order-stands}
use Rattle.edits.proofs.Editing.{edits-by, refused, log-malformed, place-bad, row_apart, rows-good}
use Rattle.edits.proofs.set_logged.Goals as goal
use Rattle.edits.proofs.set_logged.Goals.{Else-order_malformed, After-bad_place, Else-bad_place}

formed : (c : Else-order_malformed) → is_none (order_list c.args.order.now) ≡ false
formed c = sym c.order_malformed.ensures ∙ c.if-order_malformed.false

place_is : (c : After-bad_place) → let a = c.args in bad_place (rows_of a.table.now) (sources_of a.received.now (content (used_of a.set.now a.used))) a.rows.now a.place ≡ c.bad_place.result
unfolding content
place_is c = sym (c.bad_place.ensures ∙ rw c.part.ensures.result_value)

pub returns-then-order_malformed : goal.returns-then-order_malformed
returns-then-order_malformed c = let a = c.args in refused (log-malformed (rows_of a.table.now) a.rows.now a.received.now (used_of a.set.now a.used) a.order.now a.place a.value.now (sym c.order_malformed.ensures ∙ c.if-order_malformed.true)) refl

pub returns-then-bad_place : goal.returns-then-bad_place
returns-then-bad_place c =
    let a = c.args in refused (place-bad (rows_of a.table.now) a.rows.now a.received.now (used_of a.set.now a.used) a.order.now a.place a.value.now (formed (goal.at.returns-then-bad_place c).Else-order_malformed) (place_is (goal.at.returns-then-bad_place c).After-bad_place ∙ c.if-bad_place.true)) refl

pub judge-requires : goal.judge-requires
judge-requires c = let a = c.args in (record { passes = c.requires.passes; indexed = c.iei_index.ensures }, c.requires.log-short, order-stands a.order.now (formed (goal.at.judge-requires c).Else-order_malformed))

pub returns-in_default : goal.returns-in_default
returns-in_default c =
    let a = c.args in refused (row_apart (rows_of a.table.now) a.rows.now a.received.now (used_of a.set.now a.used) a.order.now a.place a.value.now (formed (goal.at.returns-in_default c).Else-order_malformed) (place_is (goal.at.returns-in_default c).After-bad_place ∙ c.if-bad_place.false) c.in_default.ensures) refl

pub set_value-requires : goal.set_value-requires
set_value-requires c =
    let a = c.args in let i = place_inside (rows_of a.table.now) (sources_of a.received.now (content (used_of a.set.now a.used))) a.rows.now a.place (place_is (goal.at.set_value-requires c).After-bad_place ∙ c.if-bad_place.false) in (omega (arith, i, c.requires.room), c.requires.within, c.requires.short)

pub returns : goal.returns
returns c =
    let a = c.args in let j = c.in-Some.ensures in edits-by (rows-good (rows_of a.table.now) a.rows.now a.received.now (used_of a.set.now a.used) a.order.now a.place a.value.now (formed (goal.at.returns c).Else-order_malformed) (place_is (goal.at.returns c).After-bad_place ∙ c.if-bad_place.false) j.0 j.1) (rw c.form_at.ensures at c.set_value.ensures)
