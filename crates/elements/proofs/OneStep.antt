-- A walk over one element, as the step of reading: the numbers of the element are told by the state behind it and by the index.
-- By how the element came; where it is cut short there is no such state.
use Prim.Native.Nat.{ℕ, ◌+◌, ◌-◌, ◌^◌, ◌≤◌, ◌<◌}
use native.Mathlib.Omega.{arith}
use mathlib.Core.Path.{◌≡◌, refl, ap, ◌∙◌}
use mathlib.Core.List.{List}
use mathlib.Core.Bool.{Bool}
use lib.ListN.{length, get_or, drop}
use Rattle.std.specs.Prelude.{Some, None, Result, Ok, Err, Option as Answered}
use Rattle.definitions.specs.Rows.{Row, rows_of, iei_of}
use Rattle.rows.specs.Indexed.{Indexed}
use Rattle.length.specs.declared.CutShort.{CutShort}
use Rattle.by_index.specs.ByIndex.{rows_by}
use Rattle.definitions.proofs.TableLaws.{iei-octet}
use Rattle.by_index.proofs.Own.{step_same}
use Rattle.elements.specs.Steps.{step_of, met_of, stands_at, state_after, found_at, place_at}
use Rattle.elements.specs.Walked.{begun, on_step, stepped}
use Rattle.elements.specs.declared.element.State.{State}
use Rattle.elements.specs.declared.element.Came.{Came}
use Rattle.elements.specs.declared.element.Element.{Element}
use Rattle.elements.specs.declared.element.Cut.{Cut}
use Rattle.elements.specs.declared.walk.Walk.{Walk}
use Rattle.elements.proofs.Steps.{left-first}
use Rattle.elements.proofs.Came.{came_at, came-by}
use Rattle.elements.proofs.Nexts.{nexts}
use Rattle.elements.proofs.Stepping.{step-next, step_cut}

-- the step by the table's own index
pub own : (table index : List ℕ) (start : ℕ) (option : Bool) (part : List ℕ) (s : State) → ((j : ℕ) → get_or part j 0 < 256) → {r : Result (Answered (Element × State)) Cut}
    → r ≡ stands_at (rows_by table index) start option part s → Indexed table index → r ≡ stands_at (rows_of table) start option part s
own table index start option part s octets e i =
    e ∙ ap step_of (step_same table index i start option (met_of s) s.at (drop s.at part) (rw (left-first s.at part) (iei-octet _ (octets s.at))))

module _ (table index : List ℕ) (start : ℕ) (option : Bool) (part : List ℕ) (s : State) (low : s.seen.low < 2 ^ 64) (inside : s.at < length part) (octets : (j : ℕ) → get_or part j 0 < 256) where
  abbrev t : List Row
  t = rows_by table index

  abbrev left : List ℕ
  left = drop s.at part

  abbrev Step : Type 0
  Step = Result (Answered (Element × State)) Cut

  abbrev here : Step
  here = stands_at t start option part s

  abbrev x : ℕ
  x = get_or part s.at 0

  abbrev entry : ℕ
  entry = get_or index (iei_of x) 0

  came : Result Came CutShort
  came = came_at table index start option part s low inside x (iei_of x) (place_at entry)

  found : found_at s x (iei_of x) (place_at entry) (length left) came ≡ here
  unfolding came
  found = came-by table index start option part s low inside x (iei_of x) refl refl (iei-octet x (octets s.at)) (place_at entry) refl

  -- behind one element
  pub record One (w : Walk) : Type 0 where
    pub further : s.at ≤ w.state.at
    pub is : Ok (Some (record { start = s.at; len = w.state.at - s.at; iei = iei_of x; place = place_at entry; placed = w.placed }, w.state)) ≡ here

  pub one : {w : Walk} → Ok w ≡ stepped t start option part 1 (begun s) → One w
  unfolding stepped
  one {w = w} q = by came found
    where
      by : (c : Result Came CutShort) → found_at s x (iei_of x) (place_at entry) (length left) c ≡ here → One w
      by (Err e) f = let z : Ok w ≡ Err _ = q ∙ step_cut t start option part 0 (begun s) f in cc
      by (Ok c) f =
          let v : State = state_after s (place_at entry) c.len in
          let z : Ok w ≡ stepped t start option part 1 (begun s) = q in
          let e = step-next t start option part 0 (begun s) f in
          let u : w.state ≡ v = cc in
          let o : w.placed ≡ c.placed = cc in
          let a : v.at ≡ s.at + c.len = (nexts t start option part s (omega arith) _ v f).further in
          let d : v.at - s.at ≡ c.len = omega arith in
          record { further = rw u (omega arith); is = rw (u, o, d) f }

  pub one-cut : {c : Cut} → Err c ≡ stepped t start option part 1 (begun s) → Err c ≡ here
  unfolding stepped on_step
  one-cut {c} q = by here q
    where
      by : (o : Step) → Err c ≡ on_step o (begun s) (stepped t start option part 0) → Err c ≡ o
      by (Ok (Some (e, v))) f = cc
      by (Ok None) f = cc
      by (Err d) f = let z : c ≡ d = cc in rw z
