-- `encode_measured` checks the table first; one that passes has its index.
-- The rest is `encode_by_index`.
use mathlib.Core.Path.{◌≡◌, refl, ap, sym, ◌∙◌}
use mathlib.Core.Option.{none}
use lib.ListN.{length}
use Rattle.definitions.specs.Rows.{rows_of, first_bad}
use Rattle.definitions.proofs.TableLaws.{index-length}
use Rattle.definitions.proofs.WriteLaws.{write-bad}
use Rattle.kept.specs.Kept.{used_of}
use Rattle.checks.specs.Answers.{checked_as}
use Rattle.checks.proofs.Laws.{passed-index}
use Rattle.std.proofs.lemmas.Result.{err_from_is_err_and}
use Rattle.measured_writing.proofs.Encoding.{refused}
use Rattle.measured_writing.proofs.encode.encode_measured.Goals as goal

pub slice_bounds-encode_by_index-end : goal.slice_bounds-encode_by_index-end
slice_bounds-encode_by_index-end c = let p : first_bad (rows_of c.args.table.now) ≡ none = sym c.check_and_index.ensures.0 ∙ ap checked_as c.in_ok-check_and_index.was in sym (ap length (passed-index (rows_of c.args.table.now) _ p c.check_and_index.ensures.1) ∙ index-length (rows_of c.args.table.now))

pub encode_by_index-requires : goal.encode_by_index-requires
encode_by_index-requires c = let p : first_bad (rows_of c.args.table.now) ≡ none = sym c.check_and_index.ensures.0 ∙ ap checked_as c.in_ok-check_and_index.was in (p, passed-index (rows_of c.args.table.now) _ p c.check_and_index.ensures.1)

pub returns-in_err-check_and_index : goal.returns-in_err-check_and_index
returns-in_err-check_and_index c =
    let p = err_from_is_err_and c.from_residual.result c.from_residual.ensures.1 in
    rw (p.1, p.2) (refused (write-bad c.args.table.now c.args.rows.now c.args.received.now (used_of c.args.set.now c.args.set_used) (used_of c.args.order.now c.args.order_used) (used_of c.args.kept.now c.args.kept_used) c.args.output.now (sym c.check_and_index.ensures.0 ∙ ap checked_as c.in_err-check_and_index.was)) refl)
