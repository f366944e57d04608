-- What a part needs by its first element and what is behind it, as the walk adds it up; and so what a walk over all of it says.
-- By the element's verdict; sums are regrouped. The walk by induction on how many elements are left at most.
use Prim.Native.Nat.{ℕ, zero, suc, ◌+◌, ◌≤◌}
use native.Mathlib.Omega.{arith}
use mathlib.Core.Path.{◌≡◌, refl, ap, sym, ◌∙◌}
use mathlib.Core.List.{List, [], ◌∷◌, ◌++◌}
use mathlib.Core.Bool.{Bool}
use mathlib.Core.Option.{Option}
use lib.ListN.{length, length-append}
use Rattle.std.specs.Prelude.{Some, None, Result, Ok, Err, Option as Answered}
use Rattle.definitions.specs.Rows.{Row}
use Rattle.definitions.specs.Elements.{Verdict, accepted, unknown, malformed, repeated, out_of_sequence, Element, iei_at, is_accepted, Parted, elements, cut_short, before}
use Rattle.definitions.specs.Logs.{leb128, kept_entry, kept_of, placed_of, order_entry, entries_of}
use Rattle.definitions.proofs.Logs.{entry_length}
use Rattle.elements.specs.Steps.{element_of, placed_for, stands_at, cut_of}
use Rattle.elements.specs.Walked.{no_tally, tallied, walked_on, on_step, stepped}
use Rattle.measuring.specs.Measures.{measured}
use Rattle.elements.specs.declared.element.State.{State}
use Rattle.elements.specs.declared.element.Cut.{Cut}
use Rattle.elements.specs.declared.element.Element as numbers
use Rattle.elements.specs.declared.walk.Tally.{Tally}
use Rattle.elements.specs.declared.walk.Walk.{Walk}
use Rattle.elements.proofs.Nexts.{from, Nexts, nexts, ends, cuts, at-end}

-- what a part needs with what was needed before it
abbrev pub measured_from : Tally → Parted → Result Tally Cut
measured_from c (elements es) = Ok (record { kept = c.kept + length (kept_of es); order = c.order + length (entries_of es) })
measured_from c (cut_short a x n m) = Err (cut_of a x n m)

abbrev Needs : ℕ → ℕ → Result Tally Cut
Needs k o = Ok (record { kept = k; order = o })

needs : {a b c d : ℕ} → a ≡ b → c ≡ d → Needs a c ≡ Needs b d
needs e f = rw (e, f)

module _ (c : Tally) (at : ℕ) (octets : List ℕ) (es : List Element) (o : Option ℕ) where
  abbrev made : Verdict → Element
  made v = record { at = at; octets = octets; place = o; verdict = v }

  kept_more : c.kept + (length (leb128 (length octets)) + length octets) + length (kept_of es) ≡ c.kept + length (kept_entry octets ++ kept_of es)
  kept_more = simp length-append (omega (arith, entry_length octets))

  same : (v : Verdict) → measured_from (tallied c (length octets) (placed_for (iei_at (made v)) v)) (elements es) ≡ measured_from c (elements (made v ∷ es))
  unfolding tallied kept_of entries_of placed_of order_entry is_accepted
  same accepted = needs (omega arith) (omega arith)
  same unknown = needs kept_more (omega arith)
  same malformed = needs kept_more (omega arith)
  same repeated = needs kept_more (omega arith)
  same out_of_sequence = needs kept_more (omega arith)

-- what is needed with an element counted is what is needed with it in front
tally-before : (c : Tally) (e : Element) (p : Parted) → measured_from (tallied c (element_of e).len (element_of e).placed) p ≡ measured_from c (before e p)
unfolding before element_of
tally-before c e (elements es) = same c e.at e.octets es e.place e.verdict
tally-before c e (cut_short a x n m) = refl

-- nothing more is needed at the end
needs-none : (c : Tally) → Ok c ≡ measured_from c (elements [])
unfolding kept_of entries_of
needs-none c = needs (omega arith) (omega arith)

-- and nothing was needed before the part
pub none_before : (p : Parted) → measured_from no_tally p ≡ measured p
none_before (elements es) = needs (omega arith) (omega arith)
none_before (cut_short a x n m) = refl

-- ---- a walk over the part

-- what it says
abbrev pub walk_needs : Result Walk Cut → Result Tally Cut
walk_needs (Ok w) = Ok w.needs
walk_needs (Err c) = Err c

module _ (t : List Row) (start : ℕ) (option : Bool) (part : List ℕ) where
  -- of as many elements as there are octets left, which are all of them
  pub walk-needs : (n : ℕ) (w : Walk) → w.state.at ≤ length part → length part ≤ w.state.at + n → walk_needs (stepped t start option part n w) ≡ measured_from w.needs (from t start option part w.state)
  unfolding stepped on_step
  walk-needs zero w h g = needs-none w.needs ∙ ap (measured_from w.needs) (sym (at-end t start option part w.state h (omega arith)))
  walk-needs (suc n) w h g = by (walk-needs n) (stands_at t start option part w.state) refl
    where
      by : ((u : Walk) → u.state.at ≤ length part → length part ≤ u.state.at + n → walk_needs (stepped t start option part n u) ≡ measured_from u.needs (from t start option part u.state))
          → (o : Result (Answered (numbers.Element × State)) Cut) → o ≡ stands_at t start option part w.state → walk_needs (on_step o w (stepped t start option part n)) ≡ measured_from w.needs (from t start option part w.state)
      by rest (Ok None) e = needs-none w.needs ∙ ap (measured_from w.needs) (sym (ends t start option part w.state h e))
      by rest (Err c) e = ap (measured_from w.needs) (sym (cuts t start option part w.state h e))
      by rest (Ok (Some (d, v))) e =
          let x : Nexts t start option part w.state d v = nexts t start option part w.state h d v e in
          rest (walked_on w d v) (omega (arith, x.further, x.within)) (omega (arith, x.further, x.some-octet))
          ∙ ap (λ (y : numbers.Element). measured_from (tallied w.needs y.len y.placed) (from t start option part v)) x.is
          ∙ tally-before w.needs x.element (from t start option part v)
          ∙ ap (measured_from w.needs) (sym x.parts)
