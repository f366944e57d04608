-- `check_part` checks the table first, then the part's length; a table that passes has its index.
-- The rest is `check_by_index`.
use native.Mathlib.Omega.{arith}
use mathlib.Core.Path.{◌≡◌, sym}
use mathlib.Core.Option.{none}
use Rattle.std.proofs.lemmas.Result.{err_from_is_err_and}
use Rattle.definitions.specs.Rows.{rows_of, first_bad}
use Rattle.definitions.proofs.Checkings.{check-bad, check-long}
use Rattle.checks.proofs.Laws.{passed-index}
use Rattle.rows.proofs.Indexed.{indexed}
use Rattle.checking.proofs.check_part.Goals as goal
use Rattle.checking.proofs.check_part.Goals.{In_ok-check_and_index}

-- the table passes its check
passes : (c : In_ok-check_and_index) → first_bad (rows_of c.args.table.now) ≡ none
passes c = sym c.in_ok-check_and_index.ensures.0

pub returns-in_err-check_and_index : goal.returns-in_err-check_and_index
returns-in_err-check_and_index c =
    let a = c.args in
    let p = err_from_is_err_and c.from_residual.result c.from_residual.ensures.1 in
    rw (p.1, p.2) (sym (check-bad a.table.now a.tlve_start a.part.now (sym c.in_err-check_and_index.ensures.0)))

pub returns-then-part-gt-MOST_OCTETS : goal.returns-then-part-gt-MOST_OCTETS
returns-then-part-gt-MOST_OCTETS c =
    let a = c.args in sym (check-long a.table.now a.tlve_start a.part.now (passes (goal.at.returns-then-part-gt-MOST_OCTETS c).In_ok-check_and_index) (omega arith))

pub check_by_index-requires : goal.check_by_index-requires
check_by_index-requires c =
    let t = c.args.table.now in
    let p = passes (goal.at.check_by_index-requires c).In_ok-check_and_index in
    record { passes = p; indexed = indexed t _ p (passed-index (rows_of t) _ p c.check_and_index.ensures.1); short = omega arith }

pub returns : goal.returns
returns c = c.check_by_index.ensures
