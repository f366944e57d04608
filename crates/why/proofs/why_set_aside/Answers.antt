-- `why_set_aside` checks the table; one that passes has its index.
-- The rest is `why_by_index`.
use mathlib.Core.Path.{◌≡◌, sym}
use mathlib.Core.Option.{none}
use Rattle.std.proofs.lemmas.Result.{err_from_is_err_and}
use Rattle.definitions.specs.Rows.{rows_of, first_bad}
use Rattle.checks.proofs.Laws.{passed-index}
use Rattle.rows.proofs.Indexed.{indexed}
use Rattle.why.proofs.Answers.{explaining-bad}
use Rattle.why.proofs.why_set_aside.Goals as goal

pub why_by_index-requires : goal.why_by_index-requires
why_by_index-requires c =
    let t = c.args.table.now in
    let p : first_bad (rows_of t) ≡ none = sym c.in_ok-check_and_index.ensures.0 in
    (indexed t _ p (passed-index (rows_of t) _ p c.check_and_index.ensures.1), p)

pub returns-in_err-check_and_index : goal.returns-in_err-check_and_index
returns-in_err-check_and_index c =
    let a = c.args in
    let p = err_from_is_err_and c.from_residual.result c.from_residual.ensures.1 in
    rw (p.1, p.2) (explaining-bad a.table.now a.tlve_start a.out_of_sequence a.octets.now a.number _ (sym c.in_err-check_and_index.ensures.0))

pub returns : goal.returns
returns c = c.why_by_index.ensures
