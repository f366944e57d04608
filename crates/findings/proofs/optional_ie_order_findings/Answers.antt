-- `optional_ie_order_findings` checks the table first; one that passes has its index.
-- The rest is `find_by_index`.
use mathlib.Core.Option.{none}
use mathlib.Core.Path.{◌≡◌, refl, sym}
use Rattle.std.proofs.lemmas.Result.{err_from_is_err_and}
use Rattle.definitions.specs.Rows.{rows_of, first_bad}
use Rattle.checks.proofs.Laws.{passed-index}
use Rattle.kept.specs.Kept.{used_of}
use Rattle.findings.proofs.Finding.{finds-by, refused, bad-table, good-table}
use Rattle.findings.proofs.optional_ie_order_findings.Goals as goal

pub returns : goal.returns
returns c =
    let t = c.args.table.now in
    let p : first_bad (rows_of t) ≡ none = sym c.in_ok-check_and_index.ensures.0 in
    let e = passed-index (rows_of t) _ p c.check_and_index.ensures.1 in
    let a = c.args in
    finds-by (good-table t (used_of a.order.now a.order_used) (used_of a.kept.now a.kept_used) a.findings.now p) (rw e at c.find_by_index.ensures)

pub returns-in_err-check_and_index : goal.returns-in_err-check_and_index
returns-in_err-check_and_index c =
    let a = c.args in
    let p = err_from_is_err_and c.from_residual.result c.from_residual.ensures.1 in
    rw (p.1, p.2) (refused (bad-table a.table.now (used_of a.order.now a.order_used) (used_of a.kept.now a.kept_used) a.findings.now (sym c.in_err-check_and_index.ensures.0)) refl)
