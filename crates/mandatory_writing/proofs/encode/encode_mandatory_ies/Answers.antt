-- `encode_mandatory_ies` checks the table first.
-- The rest is `encode_checked`.
use mathlib.Core.Path.{sym}
use Rattle.std.proofs.lemmas.Result.{err_from_is_err_and}
use Rattle.kept.specs.Kept.{used_of}
use Rattle.mandatory_writing.proofs.Checks.{writing-table}
use Rattle.mandatory_writing.proofs.encode.encode_mandatory_ies.Goals as goal

pub encode_checked-requires : goal.encode_checked-requires
encode_checked-requires c = sym c.in_ok-check_mandatory_table.ensures

pub returns-in_err-check_mandatory_table : goal.returns-in_err-check_mandatory_table
returns-in_err-check_mandatory_table c =
    let p = err_from_is_err_and c.from_residual.result c.from_residual.ensures.1 in
    rw (p.1, p.2) (writing-table c.args.table.now c.args.rows.now c.args.received.now (used_of c.args.set.now c.args.set_used) c.args.output.now c.in_err-check_mandatory_table.field-0.0.0 (sym c.in_err-check_mandatory_table.ensures))
