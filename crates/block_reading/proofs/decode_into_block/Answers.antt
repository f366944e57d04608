-- `decode_into_block` checks the table first; one that passes has its index.
-- The rest is `block_by_index`.
use mathlib.Core.Path.{◌≡◌, refl, ap, sym, ◌∙◌}
use mathlib.Core.Option.{none}
use Prim.Native.Nat.{ℕ}
use Rattle.std.proofs.lemmas.Result.{err_from_is_err_and}
use Rattle.definitions.specs.Rows.{rows_of, first_bad}
use Rattle.definitions.proofs.Readings.{read-bad}
use Rattle.definitions.proofs.Blocks.{kept_use}
use Rattle.checks.specs.Answers.{checked_as}
use Rattle.checks.proofs.Laws.{passed-index}
use Rattle.definitions.specs.Block.{two_parts}
use Rattle.block_reading.proofs.InBlock.{block_refused}
use Rattle.rows.proofs.Indexed.{indexed}
use Rattle.block_reading.proofs.decode_into_block.Goals as goal

pub block_by_index-requires : goal.block_by_index-requires
block_by_index-requires c =
    let t = c.args.table.now in
    let p : first_bad (rows_of t) ≡ none = sym c.check_and_index.ensures.0 ∙ ap checked_as c.in_ok-check_and_index.was in
    (indexed t _ p (passed-index (rows_of t) _ p c.check_and_index.ensures.1), p)

pub returns-in_err-check_and_index : goal.returns-in_err-check_and_index
returns-in_err-check_and_index c =
    let a = c.args in
    let b = a.block.now in
    let k : ℕ = kept_use a.table.now a.tlve_start a.out_of_sequence a.octets.now a.rows.now b in
    let p = err_from_is_err_and c.from_residual.result c.from_residual.ensures.1 in
    rw (p.1, p.2) (block_refused a.table.now a.tlve_start a.out_of_sequence a.octets.now a.rows.now b
    (read-bad a.table.now a.tlve_start a.out_of_sequence a.octets.now (two_parts a.rows.now b k) (sym c.check_and_index.ensures.0 ∙ ap checked_as c.in_err-check_and_index.was)) refl refl)
