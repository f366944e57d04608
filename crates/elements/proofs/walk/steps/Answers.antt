-- `steps` makes a step a turn: the invariant says that what is left of the walk from where it is gives the answer of the whole.
-- Each step is the definition's, by the rows of table and index.
use native.Mathlib.Omega.{arith}
use mathlib.Core.Path.{◌≡◌, ap, sym, ◌∙◌}
use lib.ListN.{length, drop, take}
use Rattle.std.proofs.lemmas.List.{get_or_read}
use Prim.Native.Nat.{◌-◌, ◌<◌}
use Rattle.std.proofs.Common.{rules}
use Rattle.std.specs.Prelude.{Some, None, Ok}
use Rattle.std.proofs.lemmas.Result.{err_from_is_err_and}
use Rattle.definitions.proofs.Lists.{to_end}
use Rattle.by_index.specs.ByIndex.{rows_by}
use Rattle.elements.specs.Steps.{stands_at, found_at, state_after}
use Rattle.elements.specs.declared.element.State.{State}
use Rattle.elements.specs.declared.element.Element.{Element}
use Rattle.elements.proofs.Came.{Told, by-place, told-rule, told-cut}
use Rattle.elements.proofs.Nexts.{Nexts, nexts}
use Rattle.elements.proofs.Stepping.{stepping-begun, stepping-on, stepping-cut, stepping-over, stepping-all}
use Rattle.elements.proofs.walk.steps.Goals as goal
use Rattle.elements.proofs.walk.steps.Goals.{Joined-place, in-Some-place, in-None+in_ok-came-in-None}

pub loop-init : goal.loop-init
loop-init c = let a = c.args in stepping-begun (rows_by a.table.now a.index.now) a.tlve_start a.option a.part.now a.from a.most (omega arith)

-- how the element came is the step that this is
here : (c : Joined-place) → let a = c.args in let s = c.loop.state in found_at s c.in-Some.field-0.now c.iei_of-iei.result c.match-place.place (length (drop s.at a.part.now)) (Ok c.match-place.came) ≡ stands_at (rows_by a.table.now a.index.now) a.tlve_start a.option a.part.now s
here c =
    let a = c.args in
    let s = c.loop.state in
    let x = c.in-Some.field-0.now in
    let l = c.in-Some.ensures.lookup in
    let i : s.at < length a.part.now = omega (arith, l) in
    let r = get_or_read a.part.now s.at x i l.1 0 in
    elim
    c.match-place.branch [
      | in-Some-place w ↦
          let e : c.match-place.place ≡ Some w.in-Some-place.place = cc in
          by-place a.table.now a.index.now a.tlve_start a.option a.part.now s c.loop.invariant.low i x c.iei_of-iei.result r c.iei_of-iei.ensures (omega arith)
          e (sym w.in-Some-place.is ∙ c.place_by-place.ensures) (w.came-is ∙ rw (to_end, w.numbers_at-row.ensures, w.has-again.ensures) at w.came_known-came.ensures)
      | in-None+in_ok-came-in-None w ↦
          let e : c.match-place.place ≡ None = cc in
          let t : Told s.at x (length (take (length a.part.now - s.at) (drop s.at a.part.now))) w.came_unknown.result w.map_err.result = search rules in
          told-rule a.table.now a.index.now a.tlve_start a.option a.part.now s c.loop.invariant.low i x c.iei_of-iei.result r c.iei_of-iei.ensures (omega arith)
          w.came_unknown.result w.map_err.result (rw to_end at t) (w.in_ok-came-in-None.was ∙ ap Ok (sym w.came-is)) e (sym w.in-None.is ∙ c.place_by-place.ensures) (rw to_end at w.came_unknown.ensures)
    ]

-- the element that was found, and the state behind it
abbrev element : Joined-place → Element
element c = record { start = c.loop.state.at; len = c.match-place.came.len; iei = c.iei_of-iei.result; place = c.match-place.place; placed = c.match-place.came.placed }

abbrev behind : Joined-place → State
behind c = state_after c.loop.state c.match-place.place c.match-place.came.len

next : (c : Joined-place) → Nexts (rows_by c.args.table.now c.args.index.now) c.args.tlve_start c.args.option c.args.part.now c.loop.state (element c) (behind c)
next c =
    let a = c.args in
    let l = c.in-Some.ensures.lookup in
    nexts (rows_by a.table.now a.index.now) a.tlve_start a.option a.part.now c.loop.state (omega (arith, l)) _ _ (here c)

pub with_element-t-requires : goal.with_element-t-requires
with_element-t-requires c =
    let n = next (goal.at.with_element-t-requires c).Joined-place in
    let i = c.loop.invariant in
    (n.some-octet, omega (arith, n.within, i.kept), omega (arith, n.within, i.order))

pub overflow_add-at : goal.overflow_add-at
overflow_add-at c = let n = next (goal.at.overflow_add-at c).Joined-place in omega (arith, n.within)

pub loop-preserved : goal.loop-preserved
loop-preserved c =
    let at = (goal.at.loop-preserved c).Joined-place in
    let a = c.args in
    rw (c.with_element-t.ensures, c.after-state.ensures) (stepping-on (rows_by a.table.now a.index.now) a.tlve_start a.option a.part.now c.loop.invariant (omega arith) (here at) (next at))

pub returns-in_err-came-in-None : goal.returns-in_err-came-in-None
returns-in_err-came-in-None c =
    let a = c.args in
    let s = c.loop.state in
    let x = c.in-Some.field-0.now in
    let l = c.in-Some.ensures.lookup in
    let i : s.at < length a.part.now = omega (arith, l) in
    let r = get_or_read a.part.now s.at x i l.1 0 in
    let t : Told s.at x (length (take (length a.part.now - s.at) (drop s.at a.part.now))) c.came_unknown.result c.map_err.result = search rules in
    let p = err_from_is_err_and c.from_residual.result c.from_residual.ensures.1 in
    let d =
    told-cut a.table.now a.index.now a.tlve_start a.option a.part.now s c.loop.invariant.low i x c.iei_of-iei.result r c.iei_of-iei.ensures (omega arith)
    c.came_unknown.result c.map_err.result (rw to_end at t) c.in_err-came-in-None.was (sym c.in-None.is ∙ c.place_by-place.ensures) (rw to_end at c.came_unknown.ensures) in
    rw (p.1, p.2) (stepping-cut (rows_by a.table.now a.index.now) a.tlve_start a.option a.part.now c.loop.invariant (omega arith) d)

pub returns-in_default : goal.returns-in_default
returns-in_default c = let a = c.args in let l = c.in_default.ensures.lookup in stepping-over (rows_by a.table.now a.index.now) a.tlve_start a.option a.part.now c.loop.invariant (omega (arith, l))

pub returns-after-loop : goal.returns-after-loop
returns-after-loop c = let a = c.args in stepping-all (rows_by a.table.now a.index.now) a.tlve_start a.option a.part.now c.loop.invariant (omega arith)
