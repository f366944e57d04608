-- `find_cut` passes over elements by their lengths alone: the invariant says that what is left is cut where the whole rest is.
-- The measure is what is left of the part.
use native.Mathlib.Omega.{arith}
use Prim.Native.Nat.{◌-◌}
use mathlib.Core.Path.{refl, sym, ◌∙◌}
use lib.ListN.{length, get_or, take, drop}
use Rattle.std.specs.Prelude.{Ok}
use Rattle.std.proofs.Common.{rules}
use Rattle.std.proofs.lemmas.Result.{err_from_is_err_and}
use Rattle.definitions.specs.Rows.{rows_of}
use Rattle.definitions.proofs.Lists.{to_end}
use Rattle.checking.proofs.Walking.{Told, Goes, goes, goes-on, goes-cut, no_more}
use Rattle.checking.proofs.find_cut.Goals as goal
use Rattle.checking.proofs.find_cut.Goals.{After-len_by, In_ok-at}

pub loop-at-init : goal.loop-at-init
loop-at-init c = refl

reach : (c : After-len_by) → let a = c.args in Goes (rows_of a.table.now) a.tlve_start a.part.now c.loop-at.at (omega arith) c.len_by.result
reach c = let a = c.args in rw (rw to_end at c.len_by.ensures) (goes a.table.now a.index.now a.part.now c.requires c.loop-at.at 0 (omega arith) _ c.iei_of.ensures (omega arith) a.tlve_start _ c.place_by-place.ensures)

onward : (c : In_ok-at) → let a = c.args in Goes (rows_of a.table.now) a.tlve_start a.part.now c.loop-at.at (omega arith) c.len_by.result → Goes (rows_of a.table.now) a.tlve_start a.part.now c.loop-at.at (omega arith) (Ok c.in_ok-at.field-0)
onward c r = let a = c.args in goes-on (rows_of a.table.now) a.tlve_start a.part.now c.loop-at.at (omega arith) c.len_by.result r c.in_ok-at.ensures.cases

pub overflow_add-at : goal.overflow_add-at
overflow_add-at c = let g = goal.at.overflow_add-at c in let f = onward g.In_ok-at (reach g.After-len_by) in omega (arith, f.1, c.requires.short)

pub loop-at-smaller : goal.loop-at-smaller
loop-at-smaller c = let g = goal.at.loop-at-smaller c in let f = onward g.In_ok-at (reach g.After-len_by) in omega (arith, f.0, f.1)

pub loop-at-preserved : goal.loop-at-preserved
loop-at-preserved c = let g = goal.at.loop-at-preserved c in sym (onward g.In_ok-at (reach g.After-len_by)).2 ∙ c.loop-at.invariant

pub returns-in_err-at : goal.returns-in_err-at
returns-in_err-at c =
    let a = c.args in
    let at = c.loop-at.at in
    let t : Told at (get_or a.part.now at 0) (length (take (length a.part.now - at) (drop at a.part.now))) c.len_by.result c.map_err.result = search rules in
    let p = err_from_is_err_and c.from_residual.result c.from_residual.ensures.1 in
    rw (p.1, p.2) (goes-cut (rows_of a.table.now) a.tlve_start a.part.now at (omega arith) c.len_by.result c.map_err.result (reach (goal.at.returns-in_err-at c).After-len_by) (rw to_end at t) c.in_err-at.was ∙ c.loop-at.invariant)

pub returns : goal.returns
returns c = let a = c.args in no_more (rows_of a.table.now) a.tlve_start a.part.now c.loop-at.at (omega arith) ∙ c.loop-at.invariant
