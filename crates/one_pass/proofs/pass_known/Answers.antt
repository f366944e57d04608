-- `pass_known` puts the unnamed places below the entry's, where there are any, then its own; a place that was looked at and is not named ends the
-- pass. What is left behind the entry leads to what was left before it.
use Prim.Native.Nat.{suc, ◌-◌, ◌<◌, max}
use lib.ListN.{get_or}
use lib.Dec.{ltb}
use native.Mathlib.Omega.{arith}
use mathlib.Core.Path.{◌≡◌, ap, sym, ◌∙◌}
use mathlib.Core.Bool.{false, not, ◌&&◌}
use Rattle.definitions.specs.Basic.{bit}
use Rattle.rows.specs.Answers.{place_as}
use Rattle.rows.proofs.Steps.{none-where}
use Rattle.seen.specs.Seen.{set_of}
use Rattle.placing.specs.Pieces.{lent_of, PutBy}
use Rattle.placing.proofs.Pieces.{put-nothing}
use Rattle.unnamed.specs.Named.{unnamed}
use Rattle.unnamed.proofs.Naming.{unnamed-over}
use Rattle.one_pass.proofs.Turns.{place-below, named-turn, above-turn, nowhere-turn, lower-not, between-not, known-not, known-turn}
use Rattle.one_pass.proofs.pass_known.Goals as goal
use Rattle.std.specs.Prelude.{Some}
use Rattle.one_pass.proofs.pass_known.Goals.{After-put_logged-arg-1, Joined-k-pen, then-k-pen+else-not-has, else-k-pen, then-pen-k+in_ok-at, else-pen-k}

pub overflow_add-place : goal.overflow_add-place
overflow_add-place c = let a = c.args in let h : get_or a.index.now a.iei 0 < 256 = omega (arith, c.type_inv.index a.iei) in omega (arith, place-below a.index.now a.iei h (sym c.place_of.ensures ∙ ap place_as c.in-Some.is))

pub returns-then-not-has : goal.returns-then-not-has
returns-then-not-has c = let a = c.args in lower-not (lent_of a.table.now a.rows.now a.received.now a.set.now) a.index.now (set_of a.names) a.iei a.pen a.out.now (sym c.place_of.ensures ∙ ap place_as c.in-Some.is) c.if-k-pen.true (sym c.has.ensures ∙ c.if-not-has.true)

-- the entry's place is in its turn, and the next is behind all that came
placed : (c : Joined-k-pen) → let a = c.args in let k = c.in-Some.k in ((ltb k a.pen.place && not (bit k (set_of a.names))) ≡ false) × (c.if-k-pen.place ≡ max a.pen.place (suc k))
placed c =
    elim c.if-k-pen.branch [
      | then-k-pen+else-not-has w ↦ (named-turn _ _ _ (sym w.has.ensures ∙ w.if-not-has.false), omega (arith, w.if-k-pen.true, w.place-is))
      | else-k-pen w ↦ (above-turn _ _ _ w.if-k-pen.false, omega (arith, w.if-k-pen.false, w.place-is))
    ]

pub returns-in_err-at : goal.returns-in_err-at
returns-in_err-at c =
    let a = c.args in
    rw c.from_residual.ensures (between-not (lent_of a.table.now a.rows.now a.received.now a.set.now) a.index.now (set_of a.names) a.iei a.pen a.out.now (sym c.place_of.ensures ∙ ap place_as c.in-Some.is) (placed (goal.at.returns-in_err-at c).Joined-k-pen).0 (rw c.in_err-at.was at c.put_unnamed.ensures))

-- the unnamed places below the entry's, of which there may be none
lowered : (c : After-put_logged-arg-1) → let a = c.args in PutBy (unnamed (lent_of a.table.now a.rows.now a.received.now a.set.now) (set_of a.names) a.pen.place (c.in-Some.k - a.pen.place)) a.pen.at a.out.now (Some c.if-pen-k.at) c.if-pen-k.out
lowered c =
    let a = c.args in
    elim c.if-pen-k.branch [
      | then-pen-k+in_ok-at w ↦ rw (w.out-is, w.at-is) (rw w.in_ok-at.was at w.put_unnamed.ensures)
      | else-pen-k w ↦ rw (w.out-is, w.at-is, unnamed-over (lent_of a.table.now a.rows.now a.received.now a.set.now) (set_of a.names) a.pen.place c.in-Some.k (omega (arith, w.if-pen-k.false))) (put-nothing c.requires)
    ]

pub returns : goal.returns
returns c =
    let a = c.args in
    let o = (goal.at.returns c).After-put_logged-arg-1 in
    let p = (goal.at.returns c).Joined-k-pen in
    known-turn (lent_of a.table.now a.rows.now a.received.now a.set.now) a.index.now (set_of a.names) a.iei a.pen a.out.now (sym c.place_of.ensures ∙ ap place_as c.in-Some.is) (placed p).0 (lowered o) (placed p).1 (rw c.in_ok-at-2.was at c.put_logged.ensures)

pub returns-in_err-at-2 : goal.returns-in_err-at-2
returns-in_err-at-2 c =
    let a = c.args in
    let o = (goal.at.returns-in_err-at-2 c).After-put_logged-arg-1 in
    let p = (goal.at.returns-in_err-at-2 c).Joined-k-pen in
    rw c.from_residual-in_err-at-2.ensures (known-not (lent_of a.table.now a.rows.now a.received.now a.set.now) a.index.now (set_of a.names) a.iei a.pen a.out.now (sym c.place_of.ensures ∙ ap place_as c.in-Some.is) (placed p).0 (lowered o) (rw c.in_err-at-2.was at c.put_logged.ensures))

pub returns-in_default : goal.returns-in_default
returns-in_default c = let a = c.args in nowhere-turn (lent_of a.table.now a.rows.now a.received.now a.set.now) a.index.now (set_of a.names) a.iei a.pen a.out.now c.requires (sym c.place_of.ensures ∙ ap place_as (none-where c.place_of.result c.in_default.not-Some))
