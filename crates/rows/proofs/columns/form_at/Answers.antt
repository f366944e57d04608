-- `form_at` is the form of the row's code and size.
-- Taken at once where the table has the row whole, or one by one, the two numbers are the row's.
use Prim.Native.Nat.{◌/◌}
use mathlib.Core.Path.{ap, ap₂, ◌∙◌}
use borrow.Author.Tests.{lt-ltb}
use lib.ListN.{length}
use Rattle.definitions.specs.Rows.{row_of, form, form_of}
use Rattle.definitions.proofs.TableLaws.{row_at_lem}
use Rattle.rows.specs.Numbers.{numbers_at}
use Rattle.rows.specs.declared.columns.Numbers.{Numbers}
use Rattle.rows.proofs.columns.form_at.Goals as goal

pub returns-then-place-table : goal.returns-then-place-table
unfolding numbers_at row_of form
returns-then-place-table c =
    let a = c.args in
    c.form_of.ensures
    ∙ ap (λ (n : Numbers). form_of n.code n.size) c.numbers_at-row.ensures
    ∙ rw (lt-ltb a.place (length a.table.now / 10) c.if-place-table.true, row_at_lem a.table.now a.place)

pub returns : goal.returns
unfolding form
returns c = c.form_of-2.ensures ∙ ap₂ form_of c.code_at.ensures c.size_at.ensures
