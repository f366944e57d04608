-- A step of the code as a step of the definition: the element found, the state behind it, and what is left of the part then.
-- By cases on the definition's step; the state holds what was met as two numbers, which loses nothing.
use Prim.Native.Nat.{ℕ, ◌+◌, ◌-◌, ◌^◌, ◌≤◌, ◌<◌}
use native.Mathlib.Omega.{arith}
use mathlib.Core.Path.{◌≡◌, refl, ap, sym, ◌∙◌}
use mathlib.Core.List.{List, []}
use mathlib.Core.Bool.{Bool}
use lib.ListN.{length, take, drop, length-drop}
use lib.Seq.{drop-drop}
use lib.Pow.{split}
use Rattle.std.specs.Prelude.{Some, None, Ok, Err}
use Rattle.definitions.specs.Rows.{Row}
use Rattle.definitions.specs.Elements.{Element as DefElement, Met, Parted, elements, cut_short, before, step_then, Step as DefStep, next, cut, ended, step, stranger, known, parted}
use Rattle.definitions.proofs.Steps.{parted_from, parted-step, Stands, strange, placed, Front, stands-front, step-stood, Stood}
use Rattle.elements.specs.Steps.{element_of, state_of, step_of, met_of, cut_of}
use Rattle.elements.specs.Nexts.{start_state}
use Rattle.elements.specs.declared.element.State.{State}
use Rattle.elements.specs.declared.element.Element.{Element}
use Rattle.elements.specs.declared.element.Cut.{Cut}
use Rattle.elements.proofs.Steps.{step_end}

-- the state behind an element has met what the definition says
met_of_lem : (e : DefElement) (m : Met) → met_of (state_of e m) ≡ m
unfolding state_of
met_of_lem e m = ap (λ (n : ℕ). record { places = n; highest = m.highest }) (split m.places 64)

stands_at : {t : List Row} {start : ℕ} {option : Bool} {m m' : Met} {at : ℕ} {s : List ℕ} {e : DefElement} → Stands t start option m at s e m' → e.at ≡ at
unfolding stranger known
stands_at (strange p r) = refl
stands_at (placed k p) = refl

module _ (t : List Row) (start : ℕ) (option : Bool) (part : List ℕ) where
  -- what is left of the part at a state
  abbrev pub from : State → Parted
  from s = parted_from t start option (met_of s) s.at (drop s.at part)

  -- the element e stands at the state s, and v is the state behind it
  pub record Nexts (s : State) (e : Element) (v : State) : Type 0 where
    pub element : DefElement
    pub is : e ≡ element_of element
    pub stands : Stands t start option (met_of s) s.at (drop s.at part) element (met_of v)
    pub starts : e.start ≡ s.at
    pub octets : element.octets ≡ take e.len (drop s.at part)
    pub long : length element.octets ≡ e.len
    pub some-octet : 1 ≤ e.len
    pub further : v.at ≡ s.at + e.len
    pub within : s.at + e.len ≤ length part
    pub low : v.seen.low < 2 ^ 64
    pub parts : from s ≡ before element (from v)

  module _ (s : State) (inside : s.at ≤ length part) where
    abbrev left : List ℕ
    left = drop s.at part

    abbrev here : DefStep
    here = step t start option (met_of s) s.at left

    parts-by : (o : DefStep) → here ≡ o → from s ≡ step_then o (λ m n. parted_from t start option m (s.at + n) (drop n left))
    parts-by o e = parted-step t start option (met_of s) s.at left ∙ ap (λ (x : DefStep). step_then x (λ m n. parted_from t start option m (s.at + n) (drop n left))) e

    pub ends : Ok None ≡ step_of here → from s ≡ elements []
    unfolding step_then
    ends e = of here refl e
      where
        of : (o : DefStep) → here ≡ o → Ok None ≡ step_of o → from s ≡ elements []
        of ended q f = parts-by ended q
        of (cut a x n k) q f = cc
        of (next d m) q f = cc

    pub at-end : length part ≤ s.at → from s ≡ elements []
    at-end h = ends (ap step_of (sym (step_end t start option (met_of s) s.at left (simp length-drop (omega arith)))))

    pub cuts : {c : Cut} → Err c ≡ step_of here → from s ≡ cut_short c.start c.first c.left c.missing
    unfolding step_then
    cuts {c} e = of here refl e
      where
        of : (o : DefStep) → here ≡ o → Err c ≡ step_of o → from s ≡ cut_short c.start c.first c.left c.missing
        of ended q f = cc
        of (cut b y p r) q f = let i : c ≡ cut_of b y p r = cc in rw i (parts-by (cut b y p r) q)
        of (next d m) q f = cc

    next-by : (d : DefElement) (m : Met) → here ≡ next d m → Stands t start option (met_of s) s.at left d m → Nexts s (element_of d) (state_of d m)
    unfolding step_then element_of state_of
    next-by d m q h =
        let f : Front left d.octets = stands-front t start option h in
        let a : d.at ≡ s.at = stands_at h in
        let l : length left ≡ length part - s.at = length-drop s.at part in
        let k : m ≡ met_of (state_of d m) = sym (met_of_lem d m) in
        let r : drop (length d.octets) left ≡ drop (d.at + length d.octets) part =
        drop-drop (length d.octets) s.at part ∙ ap (λ (n : ℕ). drop (n + length d.octets) part) (sym a) in
        record {
          element = d;
          is = refl;
          stands = rw (← k) h;
          starts = a;
          octets = f.front;
          long = refl;
          some-octet = f.some-octet;
          further = ap (λ (n : ℕ). n + length d.octets) a;
          within = omega (arith, f.fits);
          low = omega arith;
          parts = parts-by (next d m) q ∙ ap (before d) (rw (r, ← k, a));
        }

    pub nexts : (e : Element) (v : State) → Ok (Some (e, v)) ≡ step_of here → Nexts s e v
    nexts e v p = of here (step-stood t start option (met_of s) s.at left) refl p
      where
        of : (o : DefStep) → Stood t start option (met_of s) s.at left o → here ≡ o → Ok (Some (e, v)) ≡ step_of o → Nexts s e v
        of ended h q f = cc
        of (cut b y n k) h q f = cc
        of (next d m) h q f =
            let p : (e, v) ≡ (element_of d, state_of d m) = cc in
            let i : e ≡ element_of d = ap (λ (x : Element × State). x.0) p in
            let j : v ≡ state_of d m = ap (λ (x : Element × State). x.1) p in
            rw (i, j) (next-by d m q h)

-- the whole part is what is left at its start
pub from_start : (t : List Row) (start : ℕ) (option : Bool) (part : List ℕ) → from t start option part start_state ≡ parted t start option part
unfolding parted
from_start t start option part = refl
