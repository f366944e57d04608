-- `decode_optional_ies` checks the table first; one that passes has its index.
-- The rest is `decode_by_index`.
use mathlib.Core.Path.{◌≡◌, refl, ap, sym, ◌∙◌}
use mathlib.Core.Option.{none}
use Rattle.std.proofs.lemmas.Result.{err_from_is_err_and}
use Rattle.definitions.specs.Rows.{rows_of, first_bad}
use Rattle.definitions.proofs.Readings.{read-bad}
use Rattle.checks.specs.Answers.{checked_as}
use Rattle.checks.proofs.Laws.{passed-index}
use Rattle.filling.specs.Decodes.{lent_of}
use Rattle.filling.proofs.Noting.{refused}
use Rattle.rows.proofs.Indexed.{indexed}
use Rattle.reading.proofs.decode_optional_ies.Goals as goal

pub decode_by_index-requires : goal.decode_by_index-requires
decode_by_index-requires c =
    let t = c.args.table.now in
    let p : first_bad (rows_of t) ≡ none = sym c.check_and_index.ensures.0 ∙ ap checked_as c.in_ok-check_and_index.was in
    (indexed t _ p (passed-index (rows_of t) _ p c.check_and_index.ensures.1), p)

pub returns-in_err-check_and_index : goal.returns-in_err-check_and_index
returns-in_err-check_and_index c =
    let a = c.args in
    let l = lent_of a.rows.now a.kept.now a.order.now in
    let p = err_from_is_err_and c.from_residual.result c.from_residual.ensures.1 in
    rw (p.1, p.2) (refused {l = l} (read-bad a.table.now a.tlve_start a.out_of_sequence a.octets.now l (sym c.check_and_index.ensures.0 ∙ ap checked_as c.in_err-check_and_index.was)) refl)
