-- A part of which the table says all, element by element: as long as every one came in table order, no place from the least on was
-- met, so that the row and the IEI of the next alone say whether it is accepted in its turn, whatever the start number and the option.
use Prim.Native.Nat.{ℕ, suc, ◌+◌, ◌*◌, ◌-◌, ◌^◌, ◌≤◌, ◌<◌, max}
use native.Mathlib.Omega.{arith}
use native.Mathlib.Numerals.{add-one}
use mathlib.Core.Path.{◌≡◌, refl, ap, sym, ◌∙◌}
use mathlib.Core.List.{List, [], ◌∷◌}
use mathlib.Core.Bool.{Bool, true, false, ◌&&◌, true≢false}
use mathlib.Core.Option.{Option, none, some}
use borrow.Author.Tests.{ne_eqb, eq-eqb, le-ltb, le-leb, lt-leb}
use lib.ListN.{length, get_or, drop}
use lib.Dec.{eqb, leb, ltb}
use Rattle.std.specs.Prelude.{Option as Answered, Some, None, Result, Ok, Err}
use Rattle.definitions.specs.Basic.{pick, bit, over_at}
use Rattle.definitions.specs.Rows.{Row, row_at, first_iei}
use Rattle.definitions.specs.Length.{unknown_length, missing, required}
use Rattle.definitions.specs.Elements.{Verdict, accepted, unknown, malformed, repeated, out_of_sequence, is_accepted, judged, Element as DefElement, iei_at, Parted, elements, cut_short, before, Met, meet, stranger, known, parted, step}
use Rattle.definitions.specs.Logs.{plain_at, plain_from}
use Rattle.definitions.proofs.BitLaws.{no-bit}
use Rattle.definitions.proofs.Steps.{Stands, strange, placed}
use Rattle.length.specs.declared.CutShort.{CutShort}
use Rattle.order.specs.declared.Placed.{Placed}
use Rattle.seen.specs.declared.Seen.{Seen}
use Rattle.seen.specs.Seen.{set_of, seen_of, including_place}
use Rattle.elements.specs.Steps.{place_of, placed_for, element_of, step_of, met_of, fit_of, came_known, came_strange, found_at}
use Rattle.elements.specs.declared.element.State.{State}
use Rattle.elements.specs.declared.element.Element.{Element}
use Rattle.elements.specs.declared.element.Came.{Came}
use Rattle.elements.proofs.Nexts.{from, from_start, Nexts, nexts, cuts, at-end}
use Rattle.plain_reading.specs.Entered.{before as head_of, row_entered, entered_all}
use Rattle.plain_reading.specs.Plains.{plain_rows}
use Rattle.plain_reading.proofs.Accepted.{Accepted, accepted-one}
use Rattle.plain_reading.proofs.Entered.{met-with}

-- ---- the element in front

-- an accepted element has a place
abbrev HasPlace : Option ℕ → Verdict → Type 0
HasPlace none v = is_accepted v ≡ false
HasPlace (some k) v = Unit

has-place : {t : List Row} {start : ℕ} {option : Bool} {m m' : Met} {at : ℕ} {s : List ℕ} {e : DefElement} → Stands t start option m at s e m' → HasPlace e.place e.verdict
unfolding is_accepted stranger known
has-place (strange p r) = refl
has-place (placed k p) = tt

known-accepted : (v : Verdict) (i : ℕ) {j : ℕ} → Placed.Known j ≡ placed_for i v → is_accepted v ≡ true
unfolding is_accepted
known-accepted accepted i e = refl
known-accepted unknown i e = cc
known-accepted malformed i e = cc
known-accepted repeated i e = cc
known-accepted out_of_sequence i e = cc

pick-both : {X : Type 0} (a b : Bool) (x : Option X) → pick (a && b) x none ≡ pick a (pick b x none) none
pick-both true b x = refl
pick-both false b x = refl

pick-none : {X : Type 0} (b : Bool) → ◌≡◌ {A = Option X} none (pick b none none)
pick-none true = refl
pick-none false = refl

module _ (t : List Row) (least : ℕ) (rows : List ℕ) where
  -- by the place of the element in front, how it came, and what is behind it
  abbrev ahead : Element → Parted → Answered ℕ → Placed → Option (List ℕ)
  ahead e p k Placed.Unknown = none
  ahead e p k (Placed.Ignored r) = none
  ahead e p None (Placed.Known iei) = none
  ahead e p (Some k) (Placed.Known iei) = pick (leb least k && eqb iei (first_iei t k)) (plain_rows t (suc k) p (row_entered t e rows)) none

  module _ (at : ℕ) (octets : List ℕ) where
    abbrev made : Option ℕ → Verdict → DefElement
    made o v = record { at = at; octets = octets; place = o; verdict = v }

    aside : (o : Option ℕ) (v : Verdict) (p : Parted) → is_accepted v ≡ false → plain_rows t least (before (made o v) p) rows ≡ none
    unfolding before plain_from plain_at
    aside none v (elements es) h = refl
    aside (some k) v (elements es) h = rw h
    aside o v (cut_short a x n m) h = refl

    front : (o : Option ℕ) (v : Verdict) (p : Parted) → HasPlace o v → plain_rows t least (before (made o v) p) rows ≡ ahead (element_of (made o v)) p (place_of o) (placed_for (iei_at (made o v)) v)
    unfolding before plain_from plain_at entered_all element_of is_accepted
    front none accepted p h = let z : ◌≡◌ {A = Bool} true false = h in absurd (true≢false z)
    front (some k) accepted (elements es) h = pick-both (leb least k && eqb (iei_at (made (some k) accepted)) (first_iei t k)) (plain_from t (suc k) es) _
    front (some k) accepted (cut_short a x n m) h = pick-none (leb least k && eqb (iei_at (made (some k) accepted)) (first_iei t k))
    front o unknown p h = aside o unknown p refl
    front o malformed p h = aside o malformed p refl
    front o repeated p h = aside o repeated p refl
    front o out_of_sequence p h = aside o out_of_sequence p refl

-- ---- where the pass is

module _ (t : List Row) (start : ℕ) (option : Bool) (part : List ℕ) where
  -- what the rest gives in the present rows
  abbrev pub rest : State → ℕ → List ℕ → Option (List ℕ)
  rest s least rows = plain_rows t least (from t start option part s) rows

  -- a state behind elements in table order: no place from the least on was met
  pub record InLine (s : State) (least : ℕ) : Type 0 where
    pub within : s.at ≤ length part
    pub low : s.seen.low < 2 ^ 64
    pub unmet : (j : ℕ) → least ≤ j → bit j (set_of s.seen) ≡ false
    pub behind : s.highest ≤ least

  -- the invariant: from a state at this position the rest gives what the whole part gives
  pub record Lining (rows₀ : List ℕ) (at least : ℕ) (rows : List ℕ) : Type 0 where
    pub seen : Seen
    pub highest : ℕ
    pub line : InLine (record { at = at; seen = seen; highest = highest }) least
    pub tells : rest (record { at = at; seen = seen; highest = highest }) least rows ≡ plain_rows t 0 (parted t start option part) rows₀

  -- an element of n octets under the place k is in its turn: its row is there, and entering it leads on
  pub record Enters (rows₀ : List ℕ) (at k : ℕ) (rows : List ℕ) (n : ℕ) : Type 0 where
    pub some-octet : 1 ≤ n
    pub ends : at + n ≤ length part
    pub listed : k < length t
    pub headed : head_of t k ≤ n
    pub then : (rows' : List ℕ) → rows' ≡ over_at (4 * k) (1 ∷ (at + head_of t k) ∷ (n - head_of t k) ∷ first_iei t k ∷ []) rows → Lining rows₀ (at + n) (k + 1) rows'

  pub begun : (rows₀ : List ℕ) → Lining rows₀ 0 0 rows₀
  begun rows₀ =
      record {
        seen = record { low = 0; high = 0 };
        highest = 0;
        line = record { within = omega arith; low = omega arith; unmet = λ j h. no-bit j; behind = omega arith };
        tells = ap (λ (p : Parted). plain_rows t 0 p rows₀) (from_start t start option part);
      }

  pub ended : {rows₀ : List ℕ} {at least : ℕ} {rows : List ℕ} → Lining rows₀ at least rows → length part ≤ at → some rows ≡ plain_rows t 0 (parted t start option part) rows₀
  unfolding plain_from entered_all
  ended {least = least} {rows = rows} l h = sym (ap (λ (p : Parted). plain_rows t least p rows) (at-end t start option part _ l.line.within h)) ∙ l.tells

-- ---- at a position

module _ (t : List Row) (start : ℕ) (option : Bool) (part rows₀ : List ℕ) where
  abbrev whole : Option (List ℕ)
  whole = plain_rows t 0 (parted t start option part) rows₀

  module _ {at least : ℕ} {rows : List ℕ} (l : Lining t start option part rows₀ at least rows) (iei : ℕ) where
    abbrev pub s : State
    s = record { at = at; seen = l.seen; highest = l.highest }

    abbrev left : List ℕ
    left = drop at part

    abbrev x : ℕ
    x = get_or part at 0

    -- how the element came, under this IEI and its place, is the step there
    abbrev pub Here : Answered ℕ → Result Came CutShort → Type 0
    Here k c = found_at s x iei k (length left) c ≡ step_of (step t start option (met_of s) at left)

    -- the two ways: without a place, and with one by its row
    abbrev pub strange_here : Result Came CutShort
    strange_here = came_strange x (missing start left) left (unknown_length start left)

    abbrev pub known_here : ℕ → Row → Result Came CutShort
    known_here k r = Ok (came_known r iei option (bit k (set_of l.seen)) (ltb k l.highest) left)

    ahead-is : (e : Element) (v : State) → Nexts t start option part s e v → ahead t least rows e (from t start option part v) e.place e.placed ≡ whole
    unfolding element_of
    ahead-is e v n =
        let d : DefElement = n.element in
        ap (λ (y : Element). ahead t least rows y (from t start option part v) y.place y.placed) n.is
        ∙ sym (front t least rows d.at d.octets d.place d.verdict (from t start option part v) (has-place n.stands))
        ∙ ap (λ (p : Parted). plain_rows t least p rows) (sym n.parts)
        ∙ l.tells

    -- without a place
    pub none-strange : Here None strange_here → none ≡ whole
    none-strange h = by (unknown_length start left) h
      where
        by_next : (n : ℕ) → Here None (Ok (record { len = n; placed = Placed.Unknown })) → none ≡ whole
        by_next n q = ahead-is _ _ (nexts t start option part s l.line.within _ _ q)

        by-cut : (b : Bool) → Here None (pick b (Err (record { missing = missing start left })) (Ok (record { len = length left; placed = Placed.Unknown }))) → none ≡ whole
        by-cut true q = ap (λ (p : Parted). plain_rows t least p rows) (sym (cuts t start option part s l.line.within q)) ∙ l.tells
        by-cut false q = by_next (length left) q

        by : (o : Option ℕ) → Here None (came_strange x (missing start left) left o) → none ≡ whole
        by (some n) q = by_next n q
        by none q = by-cut (required x) q

    -- with one, by its row
    module _ (k : ℕ) (known-here : Here (Some k) (known_here k (row_at t k))) where
      abbrev row : Row
      row = row_at t k

      abbrev n : ℕ
      n = (fit_of row left).len

      abbrev element : Verdict → Element
      element v = record { start = at; len = n; iei = iei; place = Some k; placed = placed_for iei v }

      abbrev then : State
      then = record { at = at + n; seen = seen_of (including_place k (set_of l.seen)); highest = max k l.highest }

      abbrev verdict : Verdict
      verdict = judged option (bit k (set_of l.seen)) (ltb k l.highest) (fit_of row left).taken

      next-is : Nexts t start option part s (element verdict) then
      next-is = nexts t start option part s l.line.within _ _ known-here

      by-verdict : ((v : Verdict) → ahead t least rows (element v) (from t start option part then) (Some k) (placed_for iei v) ≡ none) → none ≡ whole
      by-verdict f = sym (f verdict) ∙ ahead-is _ _ next-is

      pub none_below : k < least → none ≡ whole
      none_below h = by-verdict (by (lt-leb least k h))
        where
          by : leb least k ≡ false → (v : Verdict) → ahead t least rows (element v) (from t start option part then) (Some k) (placed_for iei v) ≡ none
          by e accepted = rw e
          by e unknown = refl
          by e malformed = refl
          by e repeated = refl
          by e out_of_sequence = refl

      pub none_other : (iei ≡ first_iei t k → ⊥) → none ≡ whole
      none_other h = by-verdict by
        where
          no : (b : Bool) (y : Option (List ℕ)) → pick (b && eqb iei (first_iei t k)) y none ≡ none
          no true y = rw (ne_eqb iei (first_iei t k) h)
          no false y = refl

          by : (v : Verdict) → ahead t least rows (element v) (from t start option part then) (Some k) (placed_for iei v) ≡ none
          by accepted = no (leb least k) _
          by unknown = refl
          by malformed = refl
          by repeated = refl
          by out_of_sequence = refl

      module _ (h : least ≤ k) where
        verdict-is : verdict ≡ pick (fit_of row left).taken accepted malformed
        unfolding judged
        verdict-is = rw (l.line.unmet k h, le-ltb k l.highest (omega (arith, l.line.behind)))

        pub none-taken : (fit_of row left).taken ≡ false → none ≡ whole
        none-taken q =
            let bad : verdict ≡ malformed = verdict-is ∙ rw q in
            ap (λ (v : Verdict). ahead t least rows (element v) (from t start option part then) (Some k) (placed_for iei v)) (sym bad) ∙ ahead-is _ _ next-is

        pub enters : iei ≡ first_iei t k → (fit_of row left).taken ≡ true → Enters t start option part rows₀ at k rows n
        unfolding element_of meet row_entered
        enters f q =
            let good : verdict ≡ accepted = verdict-is ∙ rw q in
            let d : DefElement = next-is.element in
            let a : Accepted t (met_of s) (met_of then) d =
            accepted-one next-is.stands (known-accepted d.verdict (iei_at d) (ap (placed_for iei) (sym good) ∙ ap (λ (y : Element). y.placed) next-is.is)) in
            let o : Some k ≡ Some a.place = ap (λ (y : Element). y.place) next-is.is ∙ ap place_of a.has in
            let p : k ≡ a.place = cc in
            let c : InLine t start option part then (k + 1) =
            record {
              within = next-is.within;
              low = next-is.low;
              unmet = λ j g. met-with a j ∙ rw (ne_eqb j a.place (λ e. omega (arith, e, p, g))) (l.line.unmet j (omega arith));
              behind = omega (arith, l.line.behind);
            } in
            let r : ahead t least rows (element accepted) (from t start option part then) (Some k) (placed_for iei accepted) ≡ rest t start option part then (k + 1) (over_at (4 * k) (1 ∷ (at + head_of t k) ∷ (n - head_of t k) ∷ iei ∷ []) rows) =
            rw (le-leb least k h, eq-eqb iei (first_iei t k) f, add-one k) in
            record {
              some-octet = next-is.some-octet;
              ends = next-is.within;
              listed = omega (arith, a.inside, p);
              headed = omega (arith, a.headed, next-is.long, ap (head_of t) p);
              then =
                  λ rows' e.
                  record {
                    seen = then.seen;
                    highest = then.highest;
                    line = c;
                    tells =
                        rw e
                        (ap (λ (i : ℕ). rest t start option part then (k + 1) (over_at (4 * k) (1 ∷ (at + head_of t k) ∷ (n - head_of t k) ∷ i ∷ []) rows)) (sym f)
                        ∙ sym r
                        ∙ ap (λ (v : Verdict). ahead t least rows (element v) (from t start option part then) (Some k) (placed_for iei v)) (sym good)
                        ∙ ahead-is _ _ next-is);
                  };
            }
