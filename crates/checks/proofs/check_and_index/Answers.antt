-- `check_and_index` checks the rows in the lent entries, with none entered at first.
-- Of a table that passes they are its index; else they are put back as they were.
use mathlib.Core.Path.{◌≡◌, refl, ap, sym, ◌∙◌}
use Prim.Native.Nat.{ℕ}
use mathlib.Core.Bool.{true, false}
use mathlib.Core.Option.{Option, none}
use Rattle.std.specs.Prelude.{Result, Ok, Err}
use Rattle.std.specs.Result.{is_err}
use Rattle.definitions.specs.Basic.{pick, is_none}
use Rattle.definitions.specs.Rows.{rows_of, index}
use Rattle.checks.specs.Answers.{checked_as}
use Rattle.checks.specs.declared.BadRow.{BadRow}
use Rattle.indexing.proofs.Marking.{indexed-rows}
use Rattle.checks.proofs.BadRows.{bad-rows}
use Rattle.checks.proofs.check_and_index.Goals as goal

bad : (r : Result Unit BadRow) → is_err r ≡ true → is_none (checked_as r) ≡ false
unfolding is_none
bad (Ok x) e = cc
bad (Err k) e = refl

good : (r : Result Unit BadRow) → is_err r ≡ false → checked_as r ≡ none
good (Ok x) e = refl
good (Err k) e = cc

pub returns-then-is_err : goal.returns-then-is_err
returns-then-is_err c =
    let a = c.args in
    let rs = rows_of a.table.now in
    let f = c.check_rows-checked.ensures.0 ∙ bad-rows rs in
    let e = bad c.check_rows-checked.result (sym c.is_err.ensures.value ∙ c.if-is_err.true) in
    (f, rw (← f, e))

pub returns-else-is_err : goal.returns-else-is_err
unfolding is_none
returns-else-is_err c =
    let a = c.args in
    let rs = rows_of a.table.now in
    let f = c.check_rows-checked.ensures.0 ∙ bad-rows rs in
    let e = good c.check_rows-checked.result (sym c.is_err.ensures.value ∙ c.if-is_err.false) in
    (f, c.check_rows-checked.ensures.1 (sym c.check_rows-checked.ensures.0 ∙ e) ∙ indexed-rows rs ∙ sym (rw (sym f ∙ e)))
