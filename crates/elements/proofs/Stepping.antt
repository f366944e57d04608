-- The walk over so many elements: what is left of it from where it is gives the answer of the whole.
-- Each log needs at most twice the octets passed, so no sum wraps.
use Prim.Native.Nat.{ℕ, zero, suc, ◌+◌, ◌-◌, ◌*◌, ◌^◌, ◌≤◌, ◌<◌}
use native.Mathlib.Omega.{arith}
use mathlib.Core.Path.{◌≡◌, refl, ap, sym, ◌∙◌}
use mathlib.Core.List.{List}
use mathlib.Core.Bool.{Bool}
use lib.ListN.{length, drop, length-drop}
use Rattle.std.specs.Prelude.{Some, Result, Ok, Err, Option as Answered}
use Rattle.definitions.specs.Rows.{Row}
use Rattle.definitions.proofs.LogLaws.{leb-room}
use Rattle.definitions.specs.Logs.{leb128, order_entry}
use Rattle.order.specs.Order.{placed_as}
use Rattle.order.specs.declared.Placed.{Placed}
use Rattle.order.specs.declared.IgnoredIeReason.{IgnoredIeReason}
use Rattle.elements.specs.Steps.{step_of, met_of, stands_at}
use Rattle.elements.specs.Walked.{tallied, begun, walked_on, on_step, stepped}
use Rattle.elements.specs.declared.element.State.{State}
use Rattle.elements.specs.declared.element.Element.{Element}
use Rattle.elements.specs.declared.element.Cut.{Cut}
use Rattle.elements.specs.declared.walk.Tally.{Tally}
use Rattle.elements.specs.declared.walk.Walk.{Walk}
use Rattle.elements.proofs.Steps.{step_end}
use Rattle.elements.proofs.Nexts.{Nexts}

-- an entry of an element that was set aside is one octet
aside-entry : (r : IgnoredIeReason) → length (order_entry (placed_as (Placed.Ignored r))) ≡ 1
unfolding order_entry
aside-entry IgnoredIeReason.Malformed = refl
aside-entry IgnoredIeReason.Repeated = refl
aside-entry IgnoredIeReason.OutOfSequence = refl

-- what is added up of an element that a row took, and of one that was set aside
pub known-tallied : (c : Tally) (len iei : ℕ) → record { kept = c.kept; order = c.order + 2 } ≡ tallied c len (Placed.Known iei)
unfolding tallied order_entry
known-tallied c len iei =
    let z : c.kept ≡ c.kept + 0 = omega arith in
    ap (λ (n : ℕ). record { kept = n; order = c.order + 2 }) z

pub ignored-tallied : (c : Tally) (len : ℕ) (r : IgnoredIeReason) → tallied c len Placed.Unknown ≡ tallied c len (Placed.Ignored r)
unfolding tallied order_entry
ignored-tallied c len r = ap (λ (n : ℕ). record { kept = c.kept + (length (leb128 len) + len); order = c.order + n }) (sym (aside-entry r))

-- each log needs at most twice the octets
record Room (c : Tally) (len : ℕ) (p : Placed) : Type 0 where
  kept : (tallied c len p).kept ≤ c.kept + 2 * len
  order : (tallied c len p).order ≤ c.order + 2 * len

tally-room : (c : Tally) (len : ℕ) (p : Placed) → 1 ≤ len → Room c len p
unfolding tallied order_entry
tally-room c len (Placed.Known iei) h = record { kept = omega arith; order = omega arith }
tally-room c len Placed.Unknown h = record { kept = omega (arith, leb-room len h); order = omega arith }
tally-room c len (Placed.Ignored r) h = record { kept = omega (arith, leb-room len h); order = omega (arith, aside-entry r) }

module _ (t : List Row) (start : ℕ) (option : Bool) (part : List ℕ) where
  abbrev Step : Type 0
  Step = Result (Answered (Element × State)) Cut

  abbrev stands : State → Step
  stands = stands_at t start option part

  -- one step more
  pub step-next : (n : ℕ) (w : Walk) {e : Element} {v : State} → Ok (Some (e, v)) ≡ stands w.state → stepped t start option part (suc n) w ≡ stepped t start option part n (walked_on w e v)
  unfolding stepped on_step
  step-next n w q = ap (λ (o : Step). on_step o w (stepped t start option part n)) (sym q)

  pub step_cut : (n : ℕ) (w : Walk) {c : Cut} → Err c ≡ stands w.state → stepped t start option part (suc n) w ≡ Err c
  unfolding stepped on_step
  step_cut n w q = ap (λ (o : Step). on_step o w (stepped t start option part n)) (sym q)

  step-over : (n : ℕ) (w : Walk) → length part ≤ w.state.at → stepped t start option part n w ≡ Ok w
  unfolding stepped on_step
  step-over zero w h = refl
  step-over (suc n) w h =
      ap (λ (o : Step). on_step o w (stepped t start option part n))
      (ap step_of (step_end t start option (met_of w.state) w.state.at (drop w.state.at part) (simp length-drop (omega arith))))

  -- where the walk is behind n of its elements
  pub record Stepping (from : State) (most n : ℕ) (w : Walk) : Type 0 where
    pub low : w.state.seen.low < 2 ^ 64
    pub kept : w.needs.kept ≤ 2 * w.state.at
    pub order : w.needs.order ≤ 2 * w.state.at
    pub tells : stepped t start option part (most - n) w ≡ stepped t start option part most (begun from)

  pub stepping-begun : (from : State) (most : ℕ) → from.seen.low < 2 ^ 64 → Stepping from most 0 (begun from)
  stepping-begun from most h =
      let z : most - 0 ≡ most = omega arith in
      record { low = h; kept = omega arith; order = omega arith; tells = rw z }

  module _ {from : State} {most n : ℕ} {w : Walk} (i : Stepping from most n w) (more : n < most) where
    left_over : most - n ≡ suc (most - (n + 1))
    left_over = omega arith

    pub stepping-on : {e : Element} {v : State} → Ok (Some (e, v)) ≡ stands w.state → Nexts t start option part w.state e v → Stepping from most (n + 1) (walked_on w e v)
    stepping-on {e = e} {v = v} q x =
        let r : Room w.needs e.len e.placed = tally-room w.needs e.len e.placed x.some-octet in
        record {
          low = x.low;
          kept = omega (arith, r.kept, i.kept, x.further);
          order = omega (arith, r.order, i.order, x.further);
          tells = sym (step-next (most - (n + 1)) w q) ∙ ap (λ (k : ℕ). stepped t start option part k w) (sym left_over) ∙ i.tells;
        }

    pub stepping-cut : {c : Cut} → Err c ≡ stands w.state → Err c ≡ stepped t start option part most (begun from)
    stepping-cut q = sym (step_cut (most - (n + 1)) w q) ∙ ap (λ (k : ℕ). stepped t start option part k w) (sym left_over) ∙ i.tells

  -- at the end of the part, and behind the last of so many
  pub stepping-over : {from : State} {most n : ℕ} {w : Walk} → Stepping from most n w → length part ≤ w.state.at → Ok w ≡ stepped t start option part most (begun from)
  stepping-over {most = most} {n = n} {w = w} i h = sym (step-over (most - n) w h) ∙ i.tells

  pub stepping-all : {from : State} {most n : ℕ} {w : Walk} → Stepping from most n w → most ≤ n → Ok w ≡ stepped t start option part most (begun from)
  unfolding stepped
  stepping-all {most = most} {n = n} {w = w} i h = let z : most - n ≡ 0 = omega arith in rw z at i.tells
