-- The pass over a part: the elements met and what is left of the part are the part, and the starts entered are those of the first
-- element of each place met. By the element that stands at a state; what held where it has its verdict says that its ground was met.
use Prim.Native.Nat.{ℕ, ◌+◌, ◌≤◌, ◌<◌, max}
use native.Mathlib.Omega.{arith}
use mathlib.Core.Path.{◌≡◌, refl, ap, ap₂, sym, ◌∙◌}
use mathlib.Core.List.{List, [], ◌∷◌, ◌++◌}
use mathlib.Core.Bool.{Bool, true, false, ◌||◌, ◌&&◌, not}
use mathlib.Core.Option
use mathlib.Core.Option.{Option, none, some}
use lib.ListN.{length, get_or, set, take, drop, length-set, length-append}
use lib.Seq.{get_or-set_same, get_or-set_other}
use lib.Dec.{eqb, ltb}
use borrow.Author.Tests.{eqb-true, eqb-false, ltb-true, ltb-false, lt-ltb}
use Rattle.std.specs.Prelude.{Option as Answered, Some, None, Result, Ok, Err}
use Rattle.definitions.specs.Basic.{pick, bit}
use Rattle.definitions.specs.Rows.{Row, rows_of, row_at, form, iei_of}
use Rattle.definitions.specs.Elements.{Verdict, accepted, unknown, malformed, repeated, out_of_sequence, Element as DefElement, iei_at, is_at, known, stranger, Met, Parted, elements, cut_short, before, parted}
use Rattle.definitions.specs.Why.{Fault as DefFault, first_at, highest_of, fault_in, why, why_by}
use Rattle.definitions.proofs.Steps.{Stands, strange, placed}
use Rattle.definitions.proofs.Whys.{any_at, Tallies, tallies-none, tallies-next, any_last, highest-last, first-before, first-here, highest-any, Held, taken-so, no_place, not_taken, was-met, was-below, stands-held, why-only, why-placed, number-before, number-here, number-none}
use Rattle.order.specs.declared.Placed.{Placed}
use Rattle.order.specs.declared.IgnoredIeReason.{IgnoredIeReason}
use Rattle.rows.specs.Indexed.{Indexed}
use Rattle.rows.specs.Numbers.{numbers_at, row_said}
use Rattle.seen.specs.Seen.{set_of}
use Rattle.elements.specs.Steps.{element_of, met_of, place_of, placed_for}
use Rattle.elements.specs.Nexts.{start_state}
use Rattle.elements.specs.declared.element.State.{State}
use Rattle.elements.specs.declared.element.Element.{Element}
use Rattle.elements.specs.declared.element.Cut.{Cut}
use Rattle.elements.proofs.Nexts.{from, Nexts, from_start}
use Rattle.why.specs.Whys.{fault_for, why_for, why_among, why_in, entered, start_at, placed_by, ground_by}
use Rattle.why.specs.declared.Why.{Why}
use Rattle.why.specs.declared.WhyError.{WhyError}

-- ---- the elements met, before what is left

pub befores : List DefElement → Parted → Parted
befores [] p = p
befores (e ∷ es) p = before e (befores es p)

befores-last : (es : List DefElement) (d : DefElement) (p : Parted) → befores es (before d p) ≡ befores (es ++ (d ∷ [])) p
unfolding befores
befores-last [] d p = refl
befores-last (e ∷ es) d p = ap (before e) (befores-last es d p)

befores-cut : (es : List DefElement) (a x n k : ℕ) → befores es (cut_short a x n k) ≡ cut_short a x n k
unfolding befores before
befores-cut [] a x n k = refl
befores-cut (e ∷ es) a x n k = ap (before e) (befores-cut es a x n k)

befores-end : (es : List DefElement) → befores es (elements []) ≡ elements es
unfolding befores before
befores-end [] = refl
befores-end (e ∷ es) = ap (before e) (befores-end es)

-- ---- the starts

-- the starts of the first elements of the places below 128 that were met
abbrev Firsts : List ℕ → List DefElement → Type 0
Firsts starts es = (k : ℕ) → k < 128 → any_at k es ≡ true → get_or starts k 0 ≡ first_at k es

start-at : (starts : List ℕ) (k : ℕ) → k < 128 → start_at starts k ≡ get_or starts k 0
unfolding start_at
start-at starts k l = rw (lt-ltb k 128 l)

at_place : (k j : ℕ) (d : DefElement) → d.place ≡ some j → is_at k d ≡ eqb j k
unfolding is_at
at_place k j d e = rw e

at_none : (k : ℕ) (d : DefElement) → d.place ≡ none → is_at k d ≡ false
unfolding is_at
at_none k d e = rw e

module _ (starts : List ℕ) (es : List DefElement) (places : ℕ) (tallied : (k : ℕ) → bit k places ≡ any_at k es) (size : length starts ≡ 128) (h : Firsts starts es) (d : DefElement) where
  -- an element without a place
  firsts-none : d.place ≡ none → Firsts starts (es ++ (d ∷ []))
  firsts-none e k g a =
      let p : (is_at k d || any_at k es) ≡ true = sym (any_last k es d) ∙ a in
      let q : any_at k es ≡ true = rw (at_none k d e) at p in
      h k g q ∙ sym (first-before k es d q)

  -- one with the place j
  firsts-some : (j : ℕ) → j < 128 → d.place ≡ some j → Firsts (entered places (Some j) d.at starts) (es ++ (d ∷ []))
  unfolding entered
  firsts-some j l e k g a = by (eqb j k) (any_at k es) (bit j places) refl refl refl
    where
      by : (x y z : Bool) → eqb j k ≡ x → any_at k es ≡ y → bit j places ≡ z → get_or (pick (ltb j 128 && not z) (set starts j d.at) starts) k 0 ≡ first_at k (es ++ (d ∷ []))
      by x true true p q r = rw (lt-ltb j 128 l) (h k g q ∙ sym (first-before k es d q))
      by true true false p q r =
          let i : j ≡ k = eqb-true j k p in
          let f : true ≡ false = sym q ∙ sym (tallied k) ∙ ap (λ (n : ℕ). bit n places) (sym i) ∙ r in
          let z : ◌≡◌ {A = ℕ} 0 1 = cc in
          absurd (omega arith)
      by false true false p q r = rw (lt-ltb j 128 l, get_or-set_other starts j k d.at 0 (λ c. eqb-false j k p (sym c))) (h k g q ∙ sym (first-before k es d q))
      by true false true p q r =
          let i : j ≡ k = eqb-true j k p in
          let f : true ≡ false = sym r ∙ ap (λ (n : ℕ). bit n places) i ∙ tallied k ∙ q in
          let z : ◌≡◌ {A = ℕ} 0 1 = cc in
          absurd (omega arith)
      by true false false p q r =
          let i : j ≡ k = eqb-true j k p in
          rw (lt-ltb j 128 l, i, get_or-set_same starts k d.at 0 (omega arith)) (sym (first-here k es d q (at_place k j d e ∙ p)))
      by false false z p q r =
          let f : (eqb j k || any_at k es) ≡ true = rw (at_place k j d e) at (sym (any_last k es d) ∙ a) in
          let g : false ≡ true = rw (p, q) at f in
          let z : ◌≡◌ {A = ℕ} 0 1 = cc in
          absurd (omega arith)

-- ---- the pass

-- what is told of an element that is not met yet, and of one that is
abbrev absent : Result Why WhyError
absent = Err WhyError.NoElement

abbrev told_of : List Row → List DefElement → DefElement → Result Why WhyError
told_of t bs d = Ok (why_for (why t bs d))

module _ (table index : List ℕ) (i : Indexed table index) (start : ℕ) (option : Bool) (part : List ℕ) (number : ℕ) where
  abbrev t : List Row
  t = rows_of table

  pub record Walking (s : State) (starts : List ℕ) (w : Result Why WhyError) (count : ℕ) : Type 0 where
    pub met : List DefElement
    pub parts : parted t start option part ≡ befores met (from t start option part s)
    pub tallies : Tallies met (met_of s)
    pub within : s.at ≤ length part
    pub counted : count ≡ length met
    pub few : count ≤ s.at
    pub low : s.highest < 128
    pub size : length starts ≡ 128
    pub firsts : Firsts starts met
    pub tells : w ≡ why_among t number met

  pub walked_start : (s : State) (starts : List ℕ) → s ≡ start_state → length starts ≡ 128 → Walking s starts absent 0
  unfolding befores any_at
  walked_start s starts e h =
      rw e (record {
        met = [];
        parts = sym (from_start t start option part);
        tallies = tallies-none;
        within = omega arith;
        counted = refl;
        few = omega arith;
        low = omega arith;
        size = h;
        firsts = λ k g a. let z : ◌≡◌ {A = ℕ} 0 1 = cc in absurd (omega arith);
        tells = sym (number-none number [] absent (told_of t) (omega arith));
      })

  -- at the end of the part, and at a cut
  pub walked_end : {s : State} {starts : List ℕ} {w : Result Why WhyError} {count : ℕ} → Walking s starts w count → from t start option part s ≡ elements [] → w ≡ why_in t number (parted t start option part)
  walked_end h e = h.tells ∙ ap (why_in t number) (sym (h.parts ∙ ap (befores h.met) e ∙ befores-end h.met))

  pub walked-cut : {s : State} {starts : List ℕ} {w : Result Why WhyError} {count : ℕ} {c : Cut} → Walking s starts w count → from t start option part s ≡ cut_short c.start c.first c.left c.missing
      → Err (WhyError.CutShort c) ≡ why_in t number (parted t start option part)
  walked-cut {c = c} h e = ap (why_in t number) (sym (h.parts ∙ ap (befores h.met) e ∙ befores-cut h.met c.start c.first c.left c.missing))

  -- ---- an element

  place-low : {m m' : Met} {at : ℕ} {s : List ℕ} {d : DefElement} → Stands t start option m at s d m' → (k : ℕ) → d.place ≡ some k → k < 128
  unfolding stranger known
  place-low (strange p r) k e = let z : ◌≡◌ {A = ℕ} 0 1 = cc in absurd (omega arith)
  place-low (placed {x = x} j p) k e =
      let q : j ≡ k = cc in
      let l = i.below (iei_of x) j p in
      omega arith

  fault-same : (k : ℕ) (s : List ℕ) → fault_in (row_said (numbers_at table k)) s ≡ fault_in (row_at t k) s
  unfolding fault_in form
  fault-same k s = rw (i.whole.code k, i.whole.size k, i.whole.least k)

  module _ (s v : State) (e : Element) (starts : List ℕ) (w : Result Why WhyError) (count : ℕ) (h : Walking s starts w count) (n : Nexts t start option part s e v) where
    abbrev d : DefElement
    d = n.element

    place_is : (o : Option ℕ) → d.place ≡ o → e.place ≡ place_of o
    unfolding element_of
    place_is o q = ap (λ (x : Element). x.place) n.is ∙ ap place_of q

    octets-are : take e.len (drop e.start part) ≡ d.octets
    octets-are = ap (λ (x : ℕ). take e.len (drop x part)) n.starts ∙ sym n.octets

    placed-is : (u : Verdict) → d.verdict ≡ u → e.placed ≡ placed_for (iei_at d) u
    unfolding element_of
    placed-is u q = ap (λ (x : Element). x.placed) n.is ∙ ap (placed_for (iei_at d)) q

    -- what the code finds is the definition's ground
    pub ground-is : ground_by part table starts s.highest e ≡ why_for (why t h.met d)
    unfolding why_by
    ground-is = by d.verdict refl (stands-held n.stands)
      where
        at_code : (u : Verdict) → d.verdict ≡ u → ground_by part table starts s.highest e ≡ placed_by d.octets table starts s.highest e.place (placed_for (iei_at d) u)
        at_code u q = ap₂ (λ (o : List ℕ) (p : Placed). placed_by o table starts s.highest e.place p) octets-are (placed-is u q)

        aside_code : (u : Verdict) (k : ℕ) (r : IgnoredIeReason) → d.verdict ≡ u → d.place ≡ some k → placed_for (iei_at d) u ≡ Placed.Ignored r
            → ground_by part table starts s.highest e ≡ placed_by d.octets table starts s.highest (Some k) (Placed.Ignored r)
        aside_code u k r q p f = at_code u q ∙ ap₂ (placed_by d.octets table starts s.highest) (place_is (some k) p) f

        by : (u : Verdict) → d.verdict ≡ u → Held t (met_of s) d u → ground_by part table starts s.highest e ≡ why_for (why t h.met d)
        by accepted q taken-so = at_code accepted q ∙ ap why_for (sym (why-only t h.met d accepted q))
        by unknown q no_place = at_code unknown q ∙ ap why_for (sym (why-only t h.met d unknown q))
        by malformed q (not_taken k o p r f) =
            aside_code malformed k IgnoredIeReason.Malformed q p refl
            ∙ ap (λ (x : DefFault). Why.Malformed (fault_for x)) (fault-same k d.octets)
            ∙ ap why_for (sym (why-placed t h.met d k malformed p q))
        by repeated q (was-met k p f) =
            let g : get_or starts k 0 ≡ first_at k h.met = h.firsts k (place-low n.stands k p) (sym (h.tallies.places k) ∙ f) in
            aside_code repeated k IgnoredIeReason.Repeated q p refl
            ∙ ap Why.Repeated (start-at starts k (place-low n.stands k p) ∙ g)
            ∙ ap why_for (sym (why-placed t h.met d k repeated p q))
        by out_of_sequence q (was-below k p f) =
            let l : k < highest_of h.met = rw h.tallies.highest at f in
            let a : any_at s.highest h.met ≡ true = rw h.tallies.highest (highest-any h.met (omega arith)) in
            let g : get_or starts s.highest 0 ≡ first_at (highest_of h.met) h.met =
            h.firsts s.highest h.low a ∙ ap (λ (x : ℕ). first_at x h.met) h.tallies.highest in
            aside_code out_of_sequence k IgnoredIeReason.OutOfSequence q p refl
            ∙ ap Why.OutOfSequence (start-at starts s.highest h.low ∙ g)
            ∙ ap why_for (sym (why-placed t h.met d k out_of_sequence p q))

    -- ---- the state behind it

    abbrev more : List DefElement
    more = h.met ++ (d ∷ [])

    tallied : Tallies more (met_of v)
    tallied = tallies-next h.met n.stands h.tallies

    still-low : v.highest < 128
    still-low = by d.place refl
      where
        by : (o : Option ℕ) → d.place ≡ o → v.highest < 128
        by none q =
            let a : v.highest ≡ max 0 (highest_of h.met) = tallied.highest ∙ highest-last h.met d ∙ ap (λ (x : Option ℕ). max (Option.get_or x 0) (highest_of h.met)) q in
            omega (arith, h.low, h.tallies.highest)
        by (some k) q =
            let a : v.highest ≡ max k (highest_of h.met) = tallied.highest ∙ highest-last h.met d ∙ ap (λ (x : Option ℕ). max (Option.get_or x 0) (highest_of h.met)) q in
            omega (arith, h.low, h.tallies.highest, place-low n.stands k q)

    entered-long : length (entered (set_of s.seen) e.place e.start starts) ≡ 128
    unfolding entered
    entered-long = by e.place
      where
        of : (k : ℕ) (b : Bool) → length (pick b (set starts k e.start) starts) ≡ 128
        of k true = length-set starts k e.start ∙ h.size
        of k false = h.size

        by : (o : Answered ℕ) → length (entered (set_of s.seen) o e.start starts) ≡ 128
        by None = h.size
        by (Some k) = of k (ltb k 128 && not (bit k (set_of s.seen)))

    start_is : e.start ≡ d.at
    unfolding element_of
    start_is = ap (λ (x : Element). x.start) n.is

    now-firsts : Firsts (entered (set_of s.seen) e.place e.start starts) more
    unfolding entered
    now-firsts = by d.place refl
      where
        at_code : (o : Option ℕ) → d.place ≡ o → (k : ℕ) → get_or (entered (set_of s.seen) e.place e.start starts) k 0 ≡ get_or (entered (set_of s.seen) (place_of o) d.at starts) k 0
        at_code o q k = ap₂ (λ (x : Answered ℕ) (y : ℕ). get_or (entered (set_of s.seen) x y starts) k 0) (place_is o q) start_is

        by : (o : Option ℕ) → d.place ≡ o → Firsts (entered (set_of s.seen) e.place e.start starts) more
        by none q = λ k g b. at_code none q k ∙ firsts-none starts h.met (set_of s.seen) h.tallies.places h.size h.firsts d q k g b
        by (some j) q = λ k g b. at_code (some j) q k ∙ firsts-some starts h.met (set_of s.seen) h.tallies.places h.size h.firsts d j (place-low n.stands j q) q k g b

    module _ (w' : Result Why WhyError) (here : count ≡ number → w' ≡ Ok (ground_by part table starts s.highest e)) (else : (count ≡ number → ⊥) → w' ≡ w) where
      now-tells : w' ≡ why_among t number more
      now-tells = by (eqb count number) (ltb number count) refl refl
        where
          by : (a b : Bool) → eqb count number ≡ a → ltb number count ≡ b → w' ≡ why_among t number more
          by true b p q =
              let l : count ≡ number = eqb-true count number p in
              here l ∙ ap Ok ground-is ∙ sym (number-here number h.met d absent (told_of t) (sym h.counted ∙ l))
          by false true p q = else (eqb-false count number p) ∙ h.tells ∙ sym (number-before number h.met d absent (told_of t) (omega (arith, ltb-true number count q, h.counted)))
          by false false p q =
              let l : count < number = let x = eqb-false count number p in omega (arith, ltb-false number count q) in
              else (eqb-false count number p)
              ∙ h.tells
              ∙ number-none number h.met absent (told_of t) (omega (arith, h.counted))
              ∙ sym (number-none number more absent (told_of t) (omega (arith, h.counted, length-append h.met (d ∷ []))))

      pub walked : Walking v (entered (set_of s.seen) e.place e.start starts) w' (count + 1)
      walked =
          record {
            met = more;
            parts = h.parts ∙ ap (befores h.met) n.parts ∙ befores-last h.met d (from t start option part v);
            tallies = tallied;
            within = omega (arith, n.further, n.within);
            counted = omega (arith, h.counted, length-append h.met (d ∷ []));
            few = omega (arith, h.few, n.further, n.some-octet);
            low = still-low;
            size = entered-long;
            firsts = now-firsts;
            tells = now-tells;
          }
