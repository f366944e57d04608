-- The loop that looks for the element that starts at a position: what is left of the part has the line that the whole part has.
-- An element that starts elsewhere is passed over, by the definition and by the code.
use Prim.Native.Nat.{ℕ, ◌≤◌}
use native.Mathlib.Omega.{arith}
use mathlib.Core.Path.{◌≡◌, refl, ap, sym, ◌∙◌}
use mathlib.Core.List.{List, [], ◌∷◌}
use mathlib.Core.Bool.{Bool, true, false}
use lib.ListN.{length}
use lib.Dec.{eqb}
use borrow.Author.Tests.{eq-eqb, ne_eqb}
use Rattle.std.specs.Prelude.{Some, None, Ok, Err}
use Rattle.std.specs.Result.{result_unwrap_or}
use Rattle.definitions.specs.Basic.{pick}
use Rattle.definitions.specs.Rows.{rows_of}
use Rattle.definitions.specs.Tables.{start_of}
use Rattle.definitions.specs.Elements.{Element as DefElement, Parted, elements, parted, elements_of}
use Rattle.definitions.specs.Listing.{line}
use Rattle.elements.specs.Steps.{element_of, stands_at}
use Rattle.elements.specs.Nexts.{start_state, Next, next_of}
use Rattle.elements.specs.declared.element.State.{State}
use Rattle.elements.specs.declared.element.Element.{Element}
use Rattle.elements.specs.declared.next.NextError.{NextError}
use Rattle.elements.proofs.Nexts.{from, Nexts, from_start, nexts, cuts, ends}
use Rattle.elements.proofs.Walks.{back, next-step, Behind, behind, none_left, never-cut}
use Rattle.wording.specs.Lines.{line_of}
use Rattle.wording.proofs.Lines.{line-is, line-short}
use Rattle.verdicts.specs.Verdicts.{ReadWhole, line_at}

-- ---- the line of a list of elements

module _ (at : ℕ) where
  line-here : (d : DefElement) (es : List DefElement) → d.at ≡ at → line d ≡ line_at at (d ∷ es)
  unfolding line_at
  line-here d es h = sym (ap (λ (t : Bool). pick t (line d) (line_at at es)) (eq-eqb d.at at h))

  line-behind : (d : DefElement) (es : List DefElement) → (d.at ≡ at → ⊥) → line_at at es ≡ line_at at (d ∷ es)
  unfolding line_at
  line-behind d es h = sym (ap (λ (t : Bool). pick t (line d) (line_at at es)) (ne_eqb d.at at h))

  pub line-at-short : (es : List DefElement) → length (line_at at es) ≤ 25
  unfolding line_at
  line-at-short [] = omega arith
  line-at-short (d ∷ es) = by (eqb d.at at) (line-at-short es)
    where
      by : (t : Bool) → length (line_at at es) ≤ 25 → length (pick t (line d) (line_at at es)) ≤ 25
      by true h = rw (← line-is d) (line-short (element_of d))
      by false h = h

-- ---- the element that `unwrap_or` gives

pub some-next : (n : Next) {x : Element × State} → Some x ≡ result_unwrap_or n None → Ok (Some x) ≡ n
some-next (Ok y) h = ap Ok h
some-next (Err e) h = cc

-- ---- the loop

module _ (table part : List ℕ) (at : ℕ) where
  abbrev all : List ℕ
  all = line_at at (elements_of (parted (rows_of table) start_of false part))

  abbrev pub Found : State → Element → State → Type 0
  Found s e v = Nexts (rows_of table) start_of false part s e v

  pub record Looking (s : State) : Type 0 where
    pub rest : List DefElement
    pub reads : from (rows_of table) start_of false part s ≡ elements rest
    pub within : s.at ≤ length part
    pub tells : line_at at rest ≡ all

  pub looking-start : (s : State) → s ≡ start_state → ReadWhole table part → Looking s
  unfolding elements_of
  looking-start s e w =
      rw e (record {
        rest = w.found;
        reads = from_start (rows_of table) start_of false part ∙ w.reads;
        within = omega arith;
        tells = ap (λ (p : Parted). line_at at (elements_of p)) (sym w.reads);
      })

  -- what the step at a state answers
  module _ (w : ReadWhole table part) {s : State} (i : Looking s) where
    answered : {n : Next} → n ≡ next_of (rows_of table) start_of false part s → back n ≡ stands_at (rows_of table) start_of false part s
    answered e = next-step (rows_of table) start_of false part s w.passes w.short e

    pub next-found : {e : Element} {v : State} → Ok (Some (e, v)) ≡ next_of (rows_of table) start_of false part s → Found s e v
    next-found {e} {v} h = nexts (rows_of table) start_of false part s i.within e v (answered h)

    at_end : {n : Next} → n ≡ next_of (rows_of table) start_of false part s → Ok None ≡ back n → [] ≡ all
    unfolding line_at
    at_end h f =
        ap (line_at at) (sym (none_left i.reads (ends (rows_of table) start_of false part s i.within (f ∙ answered h)))) ∙ i.tells

    -- a refusal does not come
    pub found_none : (n : Next) → n ≡ next_of (rows_of table) start_of false part s → None ≡ result_unwrap_or n None → [] ≡ all
    found_none (Ok y) h f = at_end h (ap Ok f)
    found_none (Err (NextError.CutShort c)) h f = absurd (never-cut i.reads (cuts (rows_of table) start_of false part s i.within (answered h)))
    found_none (Err NextError.TooLong) h f = at_end h refl
    found_none (Err (NextError.BadTable k)) h f = at_end h refl

  -- an element that was found
  module _ {s v : State} {e : Element} (i : Looking s) (n : Found s e v) where
    abbrev then : Behind (rows_of table) start_of false part n.element v i.rest
    then = behind (rows_of table) start_of false part i.reads n

    starts-at : e.start ≡ n.element.at
    unfolding element_of
    starts-at = ap (λ (x : Element). x.start) n.is

    pub found : e.start ≡ at → line_of e ≡ all
    found h =
        ap line_of n.is
        ∙ line-is n.element
        ∙ line-here at n.element then.more (sym starts-at ∙ h)
        ∙ ap (line_at at) then.is
        ∙ i.tells

    pub passed_over : (e.start ≡ at → ⊥) → Looking v
    passed_over h =
        record {
          rest = then.more;
          reads = then.reads;
          within = omega (arith, n.further, n.within);
          tells = line-behind at n.element then.more (λ q. h (starts-at ∙ q)) ∙ ap (line_at at) then.is ∙ i.tells;
        }
