-- `is_wrong` judges the row, then its IEI, then whether the log names its place.
-- Each test is the definition's.
use mathlib.Core.Path.{◌≡◌, refl, ap, sym, ◌∙◌}
use mathlib.Core.Bool.{Bool, true, false, ◌&&◌}
use Rattle.definitions.specs.Rows.{rows_of, first_iei}
use Rattle.definitions.specs.Values.{Value, value_at, good_value, unlike}
use Rattle.rows.specs.declared.columns.Numbers.{Numbers}
use Rattle.rows.proofs.WholeRows.{whole-rows}
use Rattle.values.specs.Rows.{sources_of}
use Rattle.agreement.specs.Agreed.{apart_by}
use Rattle.measured_writing.specs.Sizes.{wrong_at}
use Rattle.measured_writing.proofs.Places.{not-present}
use Rattle.measured_writing.proofs.sizes.is_wrong.Goals as goal

and-false : (b : Bool) → (b && false) ≡ false
and-false true = refl
and-false false = refl

and-true : (b : Bool) → (b && true) ≡ b
and-true true = refl
and-true false = refl

pub returns-then-not-is_good : goal.returns-then-not-is_good
unfolding wrong_at
returns-then-not-is_good c =
    let good : good_value (sources_of c.args.received.now c.args.set.now) (value_at c.args.rows.now c.args.place) ≡ c.is_good.result = sym (c.is_good.ensures ∙ ap (good_value (sources_of c.args.received.now c.args.set.now)) c.row_at-row.ensures) in
    rw (good, c.if-not-is_good.true)

pub returns-then-row-eq0 : goal.returns-then-row-eq0
unfolding wrong_at apart_by unlike
returns-then-row-eq0 c =
    let good : good_value (sources_of c.args.received.now c.args.set.now) (value_at c.args.rows.now c.args.place) ≡ c.is_good.result = sym (c.is_good.ensures ∙ ap (good_value (sources_of c.args.received.now c.args.set.now)) c.row_at-row.ensures) in
    rw (good, c.if-not-is_good.false, not-present c.args.table.now c.args.rows.now c.args.received.now c.args.set.now c.args.place c.row_at-row.result c.row_at-row.ensures c.if-row-eq0.true, and-false)

pub returns-then-is_unlike : goal.returns-then-is_unlike
unfolding wrong_at apart_by
returns-then-is_unlike c =
    let good : good_value (sources_of c.args.received.now c.args.set.now) (value_at c.args.rows.now c.args.place) ≡ c.is_good.result = sym (c.is_good.ensures ∙ ap (good_value (sources_of c.args.received.now c.args.set.now)) c.row_at-row.ensures) in
    let other : unlike (value_at c.args.rows.now c.args.place) (first_iei (rows_of c.args.table.now) c.args.place) ≡ c.is_unlike.result = sym (c.is_unlike.ensures ∙ ap (λ (v : Value). unlike v c.numbers_at.result.first) c.row_at-row.ensures ∙ ap (unlike (value_at c.args.rows.now c.args.place)) (ap (λ (n : Numbers). n.first) c.numbers_at.ensures ∙ (whole-rows c.args.table.now (c.requires)).first c.args.place)) in
    rw (good, c.if-not-is_good.false, other ∙ c.if-is_unlike.true, ← c.has.ensures, and-true)

pub returns-else-is_unlike : goal.returns-else-is_unlike
unfolding wrong_at apart_by
returns-else-is_unlike c =
    let good : good_value (sources_of c.args.received.now c.args.set.now) (value_at c.args.rows.now c.args.place) ≡ c.is_good.result = sym (c.is_good.ensures ∙ ap (good_value (sources_of c.args.received.now c.args.set.now)) c.row_at-row.ensures) in
    let other : unlike (value_at c.args.rows.now c.args.place) (first_iei (rows_of c.args.table.now) c.args.place) ≡ c.is_unlike.result = sym (c.is_unlike.ensures ∙ ap (λ (v : Value). unlike v c.numbers_at.result.first) c.row_at-row.ensures ∙ ap (unlike (value_at c.args.rows.now c.args.place)) (ap (λ (n : Numbers). n.first) c.numbers_at.ensures ∙ (whole-rows c.args.table.now (c.requires)).first c.args.place)) in
    rw (good, c.if-not-is_good.false, other, c.if-is_unlike.false, and-false)
