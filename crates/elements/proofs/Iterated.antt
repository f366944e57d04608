-- Reading equals asking for one element after the other: by a table that passes, of a part within the limit, the elements that
-- `next_element` gives from the start on are those of the part. By the number of calls that are left.
use Prim.Native.Nat.{ℕ, zero, suc, ◌+◌, ◌≤◌}
use native.Mathlib.Omega.{arith}
use mathlib.Core.Path.{◌≡◌, refl, ap, ap₂, sym, ◌∙◌}
use mathlib.Core.List.{List}
use mathlib.Core.Bool.{Bool}
use mathlib.Core.Option.{none}
use lib.ListN.{length}
use Rattle.std.specs.Prelude.{Some, None, Result, Ok, Err, Option as Answered}
use Rattle.definitions.specs.Rows.{Row, first_bad}
use Rattle.definitions.specs.Elements.{Element as DefElement, Parted, elements, cut_short, before, parted}
use Rattle.elements.specs.Steps.{element_of, stands_at}
use Rattle.elements.specs.Nexts.{Next, start_state, next_as, next_of}
use Rattle.elements.specs.Iterates.{also, onward, iterated, told, found_in}
use Rattle.elements.specs.declared.element.State.{State}
use Rattle.elements.specs.declared.element.Element.{Element}
use Rattle.elements.specs.declared.element.Cut.{Cut}
use Rattle.elements.proofs.Nexts.{from, Nexts, ends, cuts, nexts, from_start}
use Rattle.elements.proofs.Walks.{next-read}

found_before : (d : DefElement) (p : Parted) → also (element_of d) (found_in p) ≡ found_in (before d p)
unfolding also found_in before told
found_before d (elements es) = refl
found_before d (cut_short a x n k) = refl

module _ (t : List Row) (start : ℕ) (option : Bool) (part : List ℕ) (passes : first_bad t ≡ none) (short : length part ≤ 65535) where
  here : State → Result (Answered (Element × State)) Cut
  here s = stands_at t start option part s

  next-is : (s : State) → next_of t start option part s ≡ next_as (here s)
  unfolding here
  next-is s = next-read t start option part s passes short

  onward-from :
      (f : ℕ) (s : State)
      → s.at ≤ length part
      → ((e : Element) (v : State) → Nexts t start option part s e v → iterated t start option part f v ≡ found_in (from t start option part v))
      → iterated t start option part (suc f) s ≡ found_in (from t start option part s)
  unfolding iterated here onward found_in told
  onward-from f s i h = ap (λ (n : Next). onward n (iterated t start option part f)) (next-is s) ∙ by (here s) refl
    where
      by : (o : Result (Answered (Element × State)) Cut) → o ≡ here s → onward (next_as o) (iterated t start option part f) ≡ found_in (from t start option part s)
      by (Ok (Some (e, v))) p =
          let n = nexts t start option part s i e v p in
          ap₂ also n.is (h e v n) ∙ found_before n.element (from t start option part v) ∙ ap found_in (sym n.parts)
      by (Err c) p = ap found_in (sym (cuts t start option part s i p))
      by (Ok None) p = ap found_in (sym (ends t start option part s i p))

  found_from : (f : ℕ) (s : State) → s.at ≤ length part → length part ≤ s.at + f → iterated t start option part (suc f) s ≡ found_in (from t start option part s)
  found_from zero s i b = onward-from zero s i (λ e v n. absurd (omega (arith, n.some-octet, n.within)))
  found_from (suc f) s i b = onward-from (suc f) s i (λ e v n. found_from f v (omega (arith, n.further, n.within)) (omega (arith, n.further, n.some-octet)))

  pub reading-iterates : iterated t start option part (suc (length part)) start_state ≡ found_in (parted t start option part)
  reading-iterates = found_from (length part) start_state (omega arith) (omega arith) ∙ ap found_in (from_start t start option part)
