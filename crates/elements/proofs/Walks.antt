-- A loop over the elements of a part, one at a time: what `next_element` answers by a table that passes, of a part within the limit, and
-- what is left behind an element of a part that is read whole. By cases on the answer and on what is left.
use Prim.Native.Nat.{ℕ, ◌≤◌}
use mathlib.Core.Path.{◌≡◌, refl, ap, sym, ◌∙◌}
use mathlib.Core.List.{List, [], ◌∷◌}
use mathlib.Core.Bool.{Bool}
use mathlib.Core.Option.{none}
use lib.ListN.{length}
use borrow.Author.Tests.{le-ltb}
use Rattle.std.specs.Prelude.{None, Result, Ok, Err, Option as Answered}
use Rattle.definitions.specs.Rows.{Row, first_bad}
use Rattle.definitions.specs.Elements.{Element as DefElement, Parted, elements, cut_short, before}
use Rattle.elements.specs.Steps.{stands_at}
use Rattle.elements.specs.Nexts.{Next, next_as, next_from, next_of}
use Rattle.elements.specs.declared.element.State.{State}
use Rattle.elements.specs.declared.element.Element.{Element}
use Rattle.elements.specs.declared.element.Cut.{Cut}
use Rattle.elements.specs.declared.next.NextError.{NextError}
use Rattle.elements.proofs.Nexts.{from, Nexts}

-- ---- a step

-- a refusal, which does not come, as the end
abbrev pub back : Next → Result (Answered (Element × State)) Cut
back (Ok x) = Ok x
back (Err (NextError.CutShort c)) = Err c
back (Err NextError.TooLong) = Ok None
back (Err (NextError.BadTable k)) = Ok None

back_as : (o : Result (Answered (Element × State)) Cut) → back (next_as o) ≡ o
back_as (Ok x) = refl
back_as (Err c) = refl

module _ (t : List Row) (start : ℕ) (option : Bool) (part : List ℕ) where
  module _ (s : State) (passes : first_bad t ≡ none) (short : length part ≤ 65535) where
    abbrev pub here : Result (Answered (Element × State)) Cut
    here = stands_at t start option part s

    pub next-read : next_of t start option part s ≡ next_as here
    unfolding next_of next_from
    next-read = rw (passes, le-ltb 65535 (length part) short)

    pub next-step : {n : Next} → n ≡ next_of t start option part s → back n ≡ here
    next-step e = ap back (e ∙ next-read) ∙ back_as here

  -- ---- what is left behind an element of a part that is read whole

  pub record Behind (d : DefElement) (v : State) (rest : List DefElement) : Type 0 where
    pub more : List DefElement
    pub reads : from t start option part v ≡ elements more
    pub is : d ∷ more ≡ rest

  pub behind : {s v : State} {e : Element} {rest : List DefElement} → from t start option part s ≡ elements rest → (n : Nexts t start option part s e v) → Behind n.element v rest
  unfolding before
  behind {v = v} {rest = rest} r n = by (from t start option part v) refl
    where
      by : (q : Parted) → from t start option part v ≡ q → Behind n.element v rest
      by (elements es) q =
          let f : elements (n.element ∷ es) ≡ elements rest = sym (n.parts ∙ ap (before n.element) q) ∙ r in
          record { more = es; reads = q; is = cc }
      by (cut_short a x m k) q =
          let f : cut_short a x m k ≡ elements rest = sym (n.parts ∙ ap (before n.element) q) ∙ r in
          cc

pub none_left : {p : Parted} {rest : List DefElement} → p ≡ elements rest → p ≡ elements [] → rest ≡ []
none_left {rest = rest} r e =
    let f : elements rest ≡ elements [] = sym r ∙ e in
    cc

pub never-cut : {p : Parted} {rest : List DefElement} {a x m k : ℕ} → p ≡ elements rest → p ≡ cut_short a x m k → ⊥
never-cut {rest = rest} r e =
    let f : elements rest ≡ cut_short _ _ _ _ = sym r ∙ e in
    cc
