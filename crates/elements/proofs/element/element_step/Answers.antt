-- `element_step` is a walk over one element: where it ends and how it came; at the end of the part there is none.
-- The element's numbers are told by the state behind it and by the index.
use native.Mathlib.Omega.{arith}
use mathlib.Core.Path.{◌≡◌, ap, sym, ◌∙◌}
use lib.ListN.{drop, length-drop}
use Rattle.std.proofs.lemmas.List.{get_or_read}
use Rattle.std.specs.Prelude.{None, Ok, Err}
use Rattle.std.proofs.lemmas.Result.{err_from_is_err_and}
use Rattle.by_index.specs.ByIndex.{rows_by}
use Rattle.elements.specs.Steps.{step_of, met_of, stands_at}
use Rattle.elements.proofs.Steps.{step_end}
use Rattle.elements.proofs.OneStep.{own, One, one, one-cut}
use Rattle.elements.proofs.element.element_step.Goals as goal
use Rattle.elements.proofs.element.element_step.Goals.{In_default, In_err-walk, In_ok-walk, After-place_by}

at-end : (c : In_default) → let a = c.args in Ok None ≡ stands_at (rows_by a.table.now a.index.now) a.tlve_start a.option a.part.now a.state
at-end c =
    let a = c.args in
    let l = c.in_default.ensures.lookup in
    ap step_of (sym (step_end (rows_by a.table.now a.index.now) a.tlve_start a.option (met_of a.state) a.state.at (drop a.state.at a.part.now) (simp length-drop (omega arith))))

pub returns-in_default-clause-by_index : goal.returns-in_default-clause-by_index
returns-in_default-clause-by_index c = at-end (goal.at.returns-in_default-clause-by_index c).In_default

pub returns-in_default-clause-own_index : goal.returns-in_default-clause-own_index
returns-in_default-clause-own_index c =
    let a = c.args in own a.table.now a.index.now a.tlve_start a.option a.part.now a.state (λ j. omega (arith, c.type_inv.part j)) (at-end (goal.at.returns-in_default-clause-own_index c).In_default)

-- one that is cut short
is-cut : (c : In_err-walk) → let a = c.args in Err c.in_err-walk.field-0.0 ≡ stands_at (rows_by a.table.now a.index.now) a.tlve_start a.option a.part.now a.state
is-cut c =
    let a = c.args in one-cut a.table.now a.index.now a.tlve_start a.option a.part.now a.state (omega arith) (omega (arith, c.in-Some.ensures.lookup)) (λ j. omega (arith, c.type_inv.part j)) (sym c.in_err-walk.was ∙ c.steps.ensures)

pub returns-in_err-walk-clause-by_index : goal.returns-in_err-walk-clause-by_index
returns-in_err-walk-clause-by_index c =
    let p = err_from_is_err_and c.from_residual.result c.from_residual.ensures.1 in rw (p.1, p.2) (is-cut (goal.at.returns-in_err-walk-clause-by_index c).In_err-walk)

pub returns-in_err-walk-clause-own_index : goal.returns-in_err-walk-clause-own_index
returns-in_err-walk-clause-own_index c =
    let a = c.args in
    let p = err_from_is_err_and c.from_residual.result c.from_residual.ensures.1 in
    let e = own a.table.now a.index.now a.tlve_start a.option a.part.now a.state (λ j. omega (arith, c.type_inv.part j)) (is-cut (goal.at.returns-in_err-walk-clause-own_index c).In_err-walk) in
    λ i. rw (p.1, p.2) (e i)

-- what one step of the walk gives
behind : (c : In_ok-walk) → let a = c.args in One a.table.now a.index.now a.tlve_start a.option a.part.now a.state (omega arith) (omega (arith, c.in-Some.ensures.lookup)) (λ j. omega (arith, c.type_inv.part j)) c.in_ok-walk.walk
behind c =
    let a = c.args in one a.table.now a.index.now a.tlve_start a.option a.part.now a.state (omega arith) (omega (arith, c.in-Some.ensures.lookup)) (λ j. omega (arith, c.type_inv.part j)) (sym c.in_ok-walk.was ∙ c.steps.ensures)

pub overflow_sub-element : goal.overflow_sub-element
overflow_sub-element c = omega (arith, (behind (goal.at.overflow_sub-element c).In_ok-walk).further)

pub returns-clause-by_index : goal.returns-clause-by_index
returns-clause-by_index c =
    rw (c.place_by.ensures, c.iei_of-iei.ensures, get_or_read c.args.part.now c.args.state.at c.in-Some.field-0.now (omega (arith, c.in-Some.ensures.lookup)) c.in-Some.ensures.lookup.1 0) (behind (goal.at.returns-clause-by_index c).In_ok-walk).is

pub returns-clause-own_index : goal.returns-clause-own_index
returns-clause-own_index c =
    let a = c.args in
    let e = own a.table.now a.index.now a.tlve_start a.option a.part.now a.state (λ j. omega (arith, c.type_inv.part j)) (behind (goal.at.returns-clause-own_index c).In_ok-walk).is in
    λ i. rw (c.place_by.ensures, c.iei_of-iei.ensures, get_or_read c.args.part.now c.args.state.at c.in-Some.field-0.now (omega (arith, c.in-Some.ensures.lookup)) c.in-Some.ensures.lookup.1 0) (e i)
