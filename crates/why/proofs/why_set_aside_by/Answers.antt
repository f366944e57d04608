-- `why_set_aside_by` asks by the table that the number names, and its index.
-- That table is the definitions', and passes.
use mathlib.Core.Path.{◌≡◌, sym, ◌∙◌}
use Rattle.std.specs.Prelude.{Some, None, Err}
use Rattle.std.proofs.lemmas.Result.{err_from_is_err_and}
use Rattle.rows.proofs.Indexed.{indexed}
use Rattle.real.specs.Numbered.{IsNumbered}
use Rattle.real.proofs.RealLaws.{passes_of}
use Rattle.why.specs.declared.WhyError.{WhyError}
use Rattle.why.proofs.Answers.{explaining-by}
use Rattle.why.proofs.why_set_aside_by.Goals as goal
use Rattle.why.proofs.why_set_aside_by.Goals.{In_ok-table}

pub returns-in_err-table : goal.returns-in_err-table
returns-in_err-table c =
    let a = c.args in
    let h : IsNumbered a.number None = rw c.in_err-table.ensures.ok_part at c.numbered.ensures in
    let p = err_from_is_err_and c.from_residual.result c.from_residual.ensures.1 in
    let v : Err c.in_err-table.field-0.0 ≡ Err WhyError.NoTable = rw c.in_err-table.ensures.ok_part at c.in_err-table.ensures.value in
    let e : c.in_err-table.field-0.0 ≡ WhyError.NoTable = cc in
    rw (p.1, p.2, e) (sym (explaining-by a.number a.out_of_sequence a.octets.now a.element h))

named : (c : In_ok-table) → IsNumbered c.args.number (Some c.in_ok-table.table)
named c = rw c.in_ok-table.ensures.ok_part at c.numbered.ensures

pub why_by_index-requires : goal.why_by_index-requires
why_by_index-requires c =
    let h = named (goal.at.why_by_index-requires c).In_ok-table in
    let p = passes_of c.args.number h.0 in
    (indexed _ _ p h.1, p)

pub returns : goal.returns
returns c = c.why_by_index.ensures ∙ sym (explaining-by c.args.number c.args.out_of_sequence c.args.octets.now c.args.element (named (goal.at.returns c).In_ok-table).0)
