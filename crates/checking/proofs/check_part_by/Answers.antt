-- `check_part_by` checks by the table that the number names, and its index; another number has none.
-- That table is the definition's, and passes.
use native.Mathlib.Omega.{arith}
use mathlib.Core.Path.{◌≡◌, sym, ◌∙◌}
use Rattle.std.specs.Prelude.{Some, None, Err}
use Rattle.std.proofs.lemmas.Result.{err_from_is_err_and}
use Rattle.definitions.specs.Tables.{start_of}
use Rattle.definitions.proofs.Checkings.{check-long}
use Rattle.rows.proofs.Indexed.{indexed}
use Rattle.real.specs.Numbered.{IsNumbered}
use Rattle.real.proofs.RealLaws.{passes_of}
use Rattle.checking.specs.declared.PartError.{PartError}
use Rattle.checking.proofs.Walking.{by_number, by-none}
use Rattle.checking.proofs.check_part_by.Goals as goal
use Rattle.checking.proofs.check_part_by.Goals.{In_ok-table}

pub returns-in_err-table : goal.returns-in_err-table
returns-in_err-table c =
    let h : IsNumbered c.args.number None = rw c.in_err-table.ensures.ok_part at c.numbered.ensures in
    let p = err_from_is_err_and c.from_residual.result c.from_residual.ensures.1 in
    let v : Err c.in_err-table.field-0.0 ≡ Err PartError.NoTable = rw c.in_err-table.ensures.ok_part at c.in_err-table.ensures.value in
    let e : c.in_err-table.field-0.0 ≡ PartError.NoTable = cc in
    rw (p.1, p.2, e) (sym (by-none c.args.number c.args.part.now h))

named : (c : In_ok-table) → IsNumbered c.args.number (Some c.in_ok-table.table)
named c = rw c.in_ok-table.ensures.ok_part at c.numbered.ensures

pub returns-then-part-gt-MOST_OCTETS : goal.returns-then-part-gt-MOST_OCTETS
returns-then-part-gt-MOST_OCTETS c =
    let a = c.args in
    let h = named (goal.at.returns-then-part-gt-MOST_OCTETS c).In_ok-table in
    sym (by_number a.number a.part.now h.0 ∙ check-long _ start_of a.part.now (passes_of a.number h.0) (omega arith))

pub check_by_index-requires : goal.check_by_index-requires
check_by_index-requires c =
    let h = named (goal.at.check_by_index-requires c).In_ok-table in
    let p = passes_of c.args.number h.0 in
    record { passes = p; indexed = indexed _ _ p h.1; short = omega arith }

pub returns : goal.returns
returns c = c.check_by_index.ensures ∙ sym (by_number c.args.number c.args.part.now (named (goal.at.returns c).In_ok-table).0)
