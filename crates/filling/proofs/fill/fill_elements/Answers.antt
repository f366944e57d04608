-- `fill_elements` enters an element a turn: the invariant says that what is left to enter gives what the whole part gives.
-- The measure is what is left of the part.
use Prim.Native.Nat.{ℕ, ◌*◌, ◌-◌}
use native.Mathlib.Omega.{arith}
use mathlib.Core.Path.{◌≡◌, refl, ap, sym, ◌∙◌}
use mathlib.Core.List.{List}
use lib.ListN.{length, get_or, take, drop}
use Rattle.std.specs.Prelude.{Some, None, Result, Ok, Err, MatchResult}
use Rattle.std.proofs.Common.{rules}
use Rattle.std.proofs.lemmas.Result.{err_from_is_err_and, MatchResult-weaker}
use Rattle.definitions.specs.Rows.{rows_of}
use Rattle.definitions.specs.Elements.{step}
use Rattle.definitions.proofs.Lists.{to_end}
use Rattle.length.specs.declared.CutShort.{CutShort}
use Rattle.elements.specs.Steps.{cut_of, step_of, met_of, found_at, state_after}
use Rattle.elements.specs.declared.element.State.{State}
use Rattle.elements.specs.declared.element.Element.{Element}
use Rattle.elements.specs.declared.element.Cut.{Cut}
use Rattle.elements.specs.declared.element.Came.{Came}
use Rattle.by_index.specs.ByIndex.{rows_by}
use Rattle.elements.proofs.Came.{came-by}
use Rattle.elements.proofs.Nexts.{Nexts, nexts, cuts, at-end}
use Rattle.filling.proofs.ByIndex.{places-by, row-said, entered-said}
use Rattle.filling.proofs.Filling.{begun, row_fits, kept-fits, order-fits, filled, moved, ended, cut-there}
use Rattle.filling.proofs.fill.fill_elements.Goals as goal
use Rattle.filling.proofs.fill.fill_elements.Goals.{Joined-place, in-Some, in-None+in_ok-came-in-None}

pub loop-state-init : goal.loop-state-init
loop-state-init c = let a = c.args in rw c.start_state-state.ensures (begun (rows_by a.table.now a.index.now) (4 * length (rows_of a.table.now)) a.tlve_start a.option a.octets.now a.rows.now a.kept.now a.order.now c.requires (places-by a.table.now a.index.now a.tlve_start a.option))

-- what `map_err` says of an element without a place
mapped-ok : (o : Result Came CutShort) {n : Came} → MatchResult o (λ i. ◌≡◌ {A = Result Came Cut} (Ok n) (Ok i)) (λ e. ⊥) → o ≡ Ok n
mapped-ok (Ok i) {n} h = let q : n ≡ i = cc in ap (λ (y : Came). Ok y) (sym q)
mapped-ok (Err e) h = absurd h

mapped-cut : (o : Result Came CutShort) (a x n : ℕ) {c : Cut} → MatchResult o (λ i. ◌≡◌ {A = Result Came Cut} (Err c) (Ok i)) (λ e. c ≡ record { start = a; first = x; left = n; missing = e.missing })
    → (m : ℕ) × (o ≡ Err (record { missing = m })) × (c ≡ record { start = a; first = x; left = n; missing = m })
mapped-cut (Ok i) a x n h = cc
mapped-cut (Err e) a x n h = (e.missing, refl, h)

-- the step that an element is
here : (c : Joined-place) → let a = c.args in let s = c.loop-state.state in found_at s (get_or a.octets.now s.at 0) c.iei_of-iei.result c.match-place.place (length (drop s.at a.octets.now)) (Ok c.match-place.came) ≡ step_of (step (rows_by a.table.now a.index.now) a.tlve_start a.option (met_of s) s.at (drop s.at a.octets.now))
here c =
    let a = c.args in
    let s = c.loop-state.state in
    elim c.match-place.branch [
      | in-Some w ↦
          let p : c.match-place.place ≡ Some w.in-Some.place = cc in
          let q = rw (to_end, w.numbers_at-row.ensures, w.has-again.ensures) at w.came_known-came.ensures in
          rw (p, w.came-is, q) (came-by a.table.now a.index.now a.tlve_start a.option a.octets.now s c.loop-state.invariant.low (omega arith) (get_or a.octets.now s.at 0) c.iei_of-iei.result refl c.iei_of-iei.ensures (omega arith) (Some w.in-Some.place) (sym w.in-Some.is ∙ c.place_by-place.ensures))
      | in-None+in_ok-came-in-None w ↦
          let p : c.match-place.place ≡ None = cc in
          let r : w.came_unknown.result ≡ Ok c.match-place.came = rw w.came-is (mapped-ok w.came_unknown.result w.in_ok-came-in-None.ensures.cases) in
          let q = rw to_end at w.came_unknown.ensures in
          rw p (ap (λ (y : Result Came CutShort). found_at s (get_or a.octets.now s.at 0) c.iei_of-iei.result None (length (drop s.at a.octets.now)) y) (sym r ∙ q)
          ∙ came-by a.table.now a.index.now a.tlve_start a.option a.octets.now s c.loop-state.invariant.low (omega arith) (get_or a.octets.now s.at 0) c.iei_of-iei.result refl c.iei_of-iei.ensures (omega arith) None (sym w.in-None.is ∙ c.place_by-place.ensures))
    ]

-- the element that was found, and the state behind it
abbrev element : Joined-place → Element
element c = record { start = c.loop-state.state.at; len = c.match-place.came.len; iei = c.iei_of-iei.result; place = c.match-place.place; placed = c.match-place.came.placed }

abbrev behind : Joined-place → State
behind c = state_after c.loop-state.state c.match-place.place c.match-place.came.len

next : (c : Joined-place) → Nexts (rows_by c.args.table.now c.args.index.now) c.args.tlve_start c.args.option c.args.octets.now c.loop-state.state (element c) (behind c)
next c = let a = c.args in nexts (rows_by a.table.now a.index.now) a.tlve_start a.option a.octets.now c.loop-state.state (omega (arith, c.loop-state.invariant.left_is)) _ _ (here c)

pub returns-in_err-came-in-None : goal.returns-in_err-came-in-None
returns-in_err-came-in-None c =
    let a = c.args in
    let l = c.loop-state in
    let s = l.state in
    let x = get_or a.octets.now s.at 0 in
    let n = length (drop s.at a.octets.now) in
    let p = err_from_is_err_and c.from_residual.result c.from_residual.ensures.1 in
    let z = mapped-cut c.came_unknown.result s.at x (length (take (length a.octets.now - s.at) (drop s.at a.octets.now))) (MatchResult-weaker c.came_unknown.result c.in_err-came-in-None.ensures.cases (λ i h. h) (λ e h. search rules)) in
    let q = rw to_end at c.came_unknown.ensures in
    let f = z.2 ∙ ap (λ (k : ℕ). cut_of s.at x k z.0) (ap (λ (q : List ℕ). length q) (to_end s.at a.octets.now)) in
    rw (p.1, p.2)
    (cut-there (rows_by a.table.now a.index.now) (4 * length (rows_of a.table.now)) a.tlve_start a.option a.octets.now a.rows.now a.kept.now a.order.now l.state l.used.kept l.used.order l.rows l.kept l.order l.invariant
    (cuts (rows_by a.table.now a.index.now) a.tlve_start a.option a.octets.now s (omega (arith, l.invariant.left_is))
    (ap (λ (y : Cut). Err y) f
    ∙ ap (λ (y : Result Came CutShort). found_at s x c.iei_of-iei.result None n y) (sym z.1 ∙ q)
    ∙ came-by a.table.now a.index.now a.tlve_start a.option a.octets.now s l.invariant.low (omega arith) x c.iei_of-iei.result refl c.iei_of-iei.ensures (omega arith) None (sym c.in-None.is ∙ c.place_by-place.ensures))))

pub enter_row-requires : goal.enter_row-requires
enter_row-requires c =
    let at = (goal.at.enter_row-requires c).Joined-place in
    let a = c.args in
    let l = c.loop-state in
    row-said a.table.now a.index.now (element at) l.rows (row_fits (rows_by a.table.now a.index.now) (4 * length (rows_of a.table.now)) a.tlve_start a.option a.octets.now a.rows.now a.kept.now a.order.now c.requires (places-by a.table.now a.index.now a.tlve_start a.option) l.state (behind at) (element at) l.used.kept l.used.order l.rows l.kept l.order l.invariant (next at))

pub keep-requires : goal.keep-requires
keep-requires c =
    let at = (goal.at.keep-requires c).Joined-place in
    let n = next at in
    let a = c.args in
    let l = c.loop-state in
    (omega (arith, n.starts, n.within), n.some-octet, omega (arith, n.within, c.requires.short), omega (arith, kept-fits (rows_by a.table.now a.index.now) (4 * length (rows_of a.table.now)) a.tlve_start a.option a.octets.now a.rows.now a.kept.now a.order.now c.requires (places-by a.table.now a.index.now a.tlve_start a.option) l.state (behind at) (element at) l.used.kept l.used.order l.rows l.kept l.order l.invariant (next at)))

pub note-requires : goal.note-requires
note-requires c =
    let at = (goal.at.note-requires c).Joined-place in
    let a = c.args in
    let l = c.loop-state in
    omega (arith, order-fits (rows_by a.table.now a.index.now) (4 * length (rows_of a.table.now)) a.tlve_start a.option a.octets.now a.rows.now a.kept.now a.order.now c.requires (places-by a.table.now a.index.now a.tlve_start a.option) l.state (behind at) (element at) l.used.kept l.used.order l.rows l.kept l.order l.invariant (next at))

pub overflow_add-start : goal.overflow_add-start
overflow_add-start c = let n = next (goal.at.overflow_add-start c).Joined-place in omega (arith, n.within, c.requires.short)

pub loop-state-smaller : goal.loop-state-smaller
loop-state-smaller c = let n = next (goal.at.loop-state-smaller c).Joined-place in rw c.after-state.ensures (omega (arith, n.further, n.within, n.some-octet))

pub loop-state-preserved : goal.loop-state-preserved
loop-state-preserved c =
    let at = (goal.at.loop-state-preserved c).Joined-place in
    let a = c.args in
    let l = c.loop-state in
    moved (rows_by a.table.now a.index.now) (4 * length (rows_of a.table.now)) a.tlve_start a.option a.octets.now a.rows.now a.kept.now a.order.now
    (rw (← c.after-state.ensures) at (filled (rows_by a.table.now a.index.now) (4 * length (rows_of a.table.now)) a.tlve_start a.option a.octets.now a.rows.now a.kept.now a.order.now c.requires (places-by a.table.now a.index.now a.tlve_start a.option) l.state (behind at) (element at) l.used.kept l.used.order l.rows l.kept l.order l.invariant (next at)))
    c.keep.ensures.0
    c.note.ensures.0
    (c.enter_row.ensures ∙ entered-said a.table.now a.index.now (element at) l.rows (row_fits (rows_by a.table.now a.index.now) (4 * length (rows_of a.table.now)) a.tlve_start a.option a.octets.now a.rows.now a.kept.now a.order.now c.requires (places-by a.table.now a.index.now a.tlve_start a.option) l.state (behind at) (element at) l.used.kept l.used.order l.rows l.kept l.order l.invariant (next at)))
    c.keep.ensures.1
    c.note.ensures.1

pub returns : goal.returns
returns c =
    let a = c.args in
    let l = c.loop-state in
    ended (rows_by a.table.now a.index.now) (4 * length (rows_of a.table.now)) a.tlve_start a.option a.octets.now a.rows.now a.kept.now a.order.now l.state l.used.kept l.used.order l.rows l.kept l.order l.invariant (at-end (rows_by a.table.now a.index.now) a.tlve_start a.option a.octets.now l.state (omega (arith, l.invariant.left_is)) (omega arith))
