-- `next_element` checks the table first; one that passes has its index.
-- The rest is `next_by_index`.
use Prim.Native.Nat.{ℕ}
use mathlib.Core.Path.{◌≡◌, ap, sym, ◌∙◌}
use mathlib.Core.Option.{Option, none}
use Rattle.std.proofs.lemmas.Result.{err_from_is_err_and}
use Rattle.definitions.specs.Rows.{rows_of, first_bad}
use Rattle.checks.specs.Answers.{checked_as}
use Rattle.checks.proofs.Laws.{passed-index}
use Rattle.elements.specs.Nexts.{next_of, next_by, next_from}
use Rattle.rows.proofs.Indexed.{indexed}
use Rattle.elements.proofs.next.next_element.Goals as goal

pub next_by_index-requires : goal.next_by_index-requires
next_by_index-requires c =
    let p : first_bad (rows_of c.args.table.now) ≡ none = sym c.check_and_index.ensures.0 ∙ ap checked_as c.in_ok-check_and_index.was in
    indexed c.args.table.now _ p (passed-index (rows_of c.args.table.now) _ p c.check_and_index.ensures.1)

pub returns : goal.returns
unfolding next_of
returns c =
    let a = c.args in
    let p : first_bad (rows_of a.table.now) ≡ none = sym c.check_and_index.ensures.0 ∙ ap checked_as c.in_ok-check_and_index.was in
    c.next_by_index.ensures ∙ ap (λ (o : Option ℕ). next_by o (next_from (rows_of a.table.now) a.tlve_start a.out_of_sequence a.octets.now a.state)) (sym p)

pub returns-in_err-check_and_index : goal.returns-in_err-check_and_index
unfolding next_of
returns-in_err-check_and_index c =
    let a = c.args in
    let p = err_from_is_err_and c.from_residual.result c.from_residual.ensures.1 in
    rw (p.1, p.2) (ap (λ (o : Option ℕ). next_by o (next_from (rows_of a.table.now) a.tlve_start a.out_of_sequence a.octets.now a.state)) (ap checked_as (sym c.in_err-check_and_index.was) ∙ c.check_and_index.ensures.0))
