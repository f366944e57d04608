-- `walk` passes an element a turn: the invariant says what was met, which starts are entered, and what is told of the element so far.
-- The measure is what is left of the part.
use native.Mathlib.Omega.{arith}
use mathlib.Core.Path.{◌≡◌, refl, ap, sym, ◌∙◌}
use Rattle.std.specs.Prelude.{Ok}
use Rattle.std.proofs.lemmas.Result.{err_from_is_err_and}
use Rattle.definitions.specs.Rows.{rows_of}
use Rattle.why.specs.Whys.{ground_by}
use Rattle.why.proofs.Walking.{walked_start, walked_end, walked-cut, walked}
use Rattle.elements.proofs.Nexts.{nexts, cuts, ends}
use Rattle.why.proofs.walk.Goals as goal
use Rattle.why.proofs.walk.Goals.{then-count-number, else-count-number}

pub loop-e-init : goal.loop-e-init
loop-e-init c i = walked_start c.args.table.now c.args.index.now i c.args.tlve_start c.args.option c.args.octets.now c.args.number _ _ c.start_state-state.ensures refl

pub overflow_add-count : goal.overflow_add-count
overflow_add-count c =
    let h = c.loop-e.invariant c.requires.0 in
    omega (arith, h.few, h.within, c.requires.1)

pub loop-e-smaller : goal.loop-e-smaller
loop-e-smaller c =
    let a = c.args in
    let n = nexts (rows_of a.table.now) a.tlve_start a.option a.octets.now c.loop-e.state (c.loop-e.invariant c.requires.0).within _ _ (ap Ok (sym c.in-Some.is) ∙ c.in_ok-e.ensures.own_index c.requires.0) in
    omega (arith, n.further, n.within, n.some-octet)

pub loop-e-preserved : goal.loop-e-preserved
loop-e-preserved c i =
    let a = c.args in
    let l = c.loop-e in
    let e = c.in-Some.e in
    let n = nexts (rows_of a.table.now) a.tlve_start a.option a.octets.now l.state (l.invariant i).within e _ (ap Ok (sym c.in-Some.is) ∙ c.in_ok-e.ensures.own_index i) in
    let w : ((l.count ≡ a.number → c.if-count-number.why ≡ Ok (ground_by a.octets.now a.table.now l.starts l.state.highest e)) × ((l.count ≡ a.number → ⊥) → c.if-count-number.why ≡ l.why)) =
    elim
    c.if-count-number.branch [
      | then-count-number x ↦ (λ q. x.why-is ∙ ap Ok x.ground.ensures, λ q. absurd (q x.if-count-number.true))
      | else-count-number x ↦ (λ q. absurd (x.if-count-number.false q), λ q. x.why-is)
    ] in
    rw c.enter.ensures (walked a.table.now a.index.now i a.tlve_start a.option a.octets.now a.number l.state _ e l.starts l.why l.count (l.invariant i) n _ w.0 w.1)

pub returns-in_err-e : goal.returns-in_err-e
returns-in_err-e c =
    let a = c.args in
    let i = c.requires.0 in
    let h = c.loop-e.invariant i in
    let p = err_from_is_err_and c.from_residual.result c.from_residual.ensures.1 in
    rw (p.1, p.2) (walked-cut a.table.now a.index.now i a.tlve_start a.option a.octets.now a.number h (cuts (rows_of a.table.now) a.tlve_start a.option a.octets.now c.loop-e.state h.within (c.in_err-e.ensures.own_index i)))

pub returns : goal.returns
returns c =
    let a = c.args in
    let i = c.requires.0 in
    let h = c.loop-e.invariant i in
    walked_end a.table.now a.index.now i a.tlve_start a.option a.octets.now a.number h (ends (rows_of a.table.now) a.tlve_start a.option a.octets.now c.loop-e.state h.within (ap Ok (sym c.in_default.is) ∙ c.in_ok-e.ensures.own_index i))
