-- The filling loop: what is left to enter gives, from the present rows and logs, what the whole part gives from those at entry.
-- A step enters the element in front; a log's pieces follow one another, and the room for the rest stays.
use Prim.Native.Nat.{ℕ, ◌+◌, ◌*◌, ◌-◌, ◌≤◌, ◌<◌, ◌^◌}
use native.Mathlib.Omega.{arith}
use mathlib.Core.Path.{◌≡◌, refl, ap, subst, sym, ◌∙◌}
use mathlib.Core.List.{List, [], ◌∷◌, ◌++◌}
use mathlib.Core.Bool.{Bool, true}
use mathlib.Core.Option.{Option, some}
use lib.ListN.{length, take, drop, length-append}
use Rattle.std.specs.Prelude.{Option as Answered, Some, None, Result, Ok, Err}
use Rattle.definitions.specs.Basic.{pick, over, over_at}
use Rattle.definitions.specs.Rows.{Row, row_at, form}
use Rattle.definitions.specs.Length.{header}
use Rattle.definitions.specs.Elements.{Met, Verdict, accepted, unknown, malformed, repeated, out_of_sequence, is_accepted, Element as DefElement, iei_at, Parted, elements, cut_short, elements_of, before, parted}
use Rattle.definitions.specs.Logs.{kept_entry, kept_of, entries_of, placed_of, order_entry}
use Rattle.definitions.proofs.Lists.{over-next, over_none, length-over_at}
use Rattle.definitions.proofs.Logs.{entry_length}
use Rattle.definitions.proofs.LogLaws.{leb-room}
use Rattle.order.specs.Order.{placed_as}
use Rattle.order.specs.declared.Placed.{Placed}
use Rattle.order.specs.declared.IgnoredIeReason.{IgnoredIeReason}
use Rattle.elements.specs.Steps.{place_of, placed_for, element_of}
use Rattle.plain_reading.specs.Entered.{row_entered, row_by, entered_all}
use Rattle.filling.specs.Fills.{RowFits, RowFitsBy, kept_of_found, entry_by, note_by, Outcome, done, cut, filled_from, outcome, Room, exact, twice, Ready}
use Rattle.elements.specs.Nexts.{start_state}
use Rattle.elements.specs.declared.element.State.{State}
use Rattle.elements.specs.declared.element.Element.{Element}
use Rattle.elements.specs.declared.element.Cut.{Cut}
use Rattle.elements.specs.declared.walk.Tally.{Tally}
use Rattle.elements.proofs.Nexts.{from, Nexts, from_start}
use Rattle.definitions.proofs.Steps.{Stands}

-- ---- an element's entries, and the rest

kept_cons : (e : DefElement) (es : List DefElement) → kept_of (e ∷ es) ≡ entry_by e.octets (placed_for (iei_at e) e.verdict) ++ kept_of es
unfolding kept_of is_accepted
kept_cons e es = by e.verdict
  where
    by : (v : Verdict) → pick (is_accepted v) (kept_of es) (kept_entry e.octets ++ kept_of es) ≡ entry_by e.octets (placed_for (iei_at e) v) ++ kept_of es
    by accepted = refl
    by unknown = refl
    by malformed = refl
    by repeated = refl
    by out_of_sequence = refl

notes-cons : (e : DefElement) (es : List DefElement) → entries_of (e ∷ es) ≡ note_by (placed_for (iei_at e) e.verdict) ++ entries_of es
unfolding entries_of placed_of
notes-cons e es = by e.verdict e.at e.octets e.place
  where
    by : (v : Verdict) (at : ℕ) (o : List ℕ) (p : Option ℕ)
        → let d : DefElement = record { at = at; octets = o; place = p; verdict = v } in order_entry (placed_of d) ++ entries_of es ≡ order_entry (placed_as (placed_for (iei_at d) v)) ++ entries_of es
    by accepted at o p = refl
    by unknown at o p = refl
    by malformed at o p = refl
    by repeated at o p = refl
    by out_of_sequence at o p = refl

-- what an accepted element's row needs
record Fit (t : List Row) (rows : List ℕ) (o : Option ℕ) (at len : ℕ) : Type 0 where
  place : ℕ
  has : o ≡ some place
  inside : 4 * place + 4 ≤ length rows
  headed : header (form (row_at t place)) ≤ len
  short : at + len < 65536
  below : place < 128

fits_by : (t : List Row) (rows : List ℕ) (o : Option ℕ) (v : Verdict) (at len iei : ℕ) → (is_accepted v ≡ true → Fit t rows o at len) → RowFitsBy t (place_of o) at len rows (placed_for iei v)
unfolding is_accepted
fits_by t rows o accepted at len iei h = let f : Fit t rows o at len = h refl in rw f.has (f.inside, f.headed, f.short, f.below)
fits_by t rows o unknown at len iei h = tt
fits_by t rows o malformed at len iei h = tt
fits_by t rows o repeated at len iei h = tt
fits_by t rows o out_of_sequence at len iei h = tt

entered-long : (t : List Row) (e : Element) (rows : List ℕ) → RowFits t e rows → length (row_entered t e rows) ≡ length rows
unfolding row_entered
entered-long t e rows = by e.place e.placed
  where
    by : (k : Answered ℕ) (p : Placed) → RowFitsBy t k e.start e.len rows p → length (row_by t k e.start e.len rows p) ≡ length rows
    by k Placed.Unknown f = refl
    by k (Placed.Ignored r) f = refl
    by None (Placed.Known i) f = absurd f
    by (Some k) (Placed.Known i) f = length-over_at (4 * k) (1 ∷ _ ∷ _ ∷ i ∷ []) rows f.0

-- ---- an element in front of a part

-- an element's entries in the logs
abbrev entry : DefElement → List ℕ
entry d = entry_by d.octets (placed_for (iei_at d) d.verdict)

abbrev note : DefElement → List ℕ
note d = note_by (placed_for (iei_at d) d.verdict)

same-done : {a a' b b' : ℕ} {c c' d d' e e' : List ℕ} → a ≡ a' → b ≡ b' → c ≡ c' → d ≡ d' → e ≡ e' → done a b c d e ≡ done a' b' c' d' e'
same-done f g h i j = rw (f, g, h, i, j)

-- entering it, and what is behind it from there
front : (t : List Row) (d : DefElement) (v : Parted) (k o : ℕ) (rows kept order : List ℕ) → k + length (entry d) ≤ length kept → o + length (note d) ≤ length order
    → filled_from t v (k + length (entry d)) (o + length (note d)) (row_entered t (element_of d) rows) (over_at k (entry d) kept) (over_at o (note d) order) ≡ filled_from t (before d v) k o rows kept order
unfolding before entered_all
front t d (elements es) k o rows kept order f g =
    same-done (omega (arith, ap length (kept_cons d es) ∙ length-append (entry d) (kept_of es))) (omega (arith, ap length (notes-cons d es) ∙ length-append (note d) (entries_of es))) refl
    (over-next k (entry d) (kept_of es) kept f ∙ ap (λ (x : List ℕ). over_at k x kept) (sym (kept_cons d es)))
    (over-next o (note d) (entries_of es) order g ∙ ap (λ (x : List ℕ). over_at o x order) (sym (notes-cons d es)))
front t d (cut_short a x n m) k o rows kept order f g = refl

-- the room behind it
record Behind (v : Parted) (ke no left k o kept order : ℕ) : Type 0 where
  fits_kept : k + ke ≤ kept
  fits-order : o + no ≤ order
  room : Room v left (k + ke) (o + no) kept order

room-behind : (d : DefElement) (v : Parted) {p : Parted} (left len k o kept order : ℕ) → p ≡ before d v → length (entry d) ≤ 2 * len → length (note d) ≤ 2 * len → len ≤ left
    → Room p left k o kept order → Behind v (length (entry d)) (length (note d)) (left - len) k o kept order
unfolding before elements_of
room-behind d v left len k o kept order e f g h (twice a b) = record { fits_kept = omega arith; fits-order = omega arith; room = twice (omega arith) (omega arith) }
room-behind d (elements es) left len k o kept order e f g h (exact c a b) =
    let a' : k + length (kept_of (d ∷ es)) ≤ kept = rw e at a in
    let b' : o + length (entries_of (d ∷ es)) ≤ order = rw e at b in
    let l = ap length (kept_cons d es) ∙ length-append (entry d) (kept_of es) in
    let m = ap length (notes-cons d es) ∙ length-append (note d) (entries_of es) in
    record { fits_kept = omega arith; fits-order = omega arith; room = exact refl (omega arith) (omega arith) }
room-behind d (cut_short x y z w) left len k o kept order e f g h (exact c a b) =
    let q : cut_short x y z w ≡ elements _ = sym e ∙ c in
    cc

-- no entry takes more than twice the element's octets
entry-short : (o : List ℕ) (p : Placed) → 1 ≤ length o → length (entry_by o p) ≤ 2 * length o
entry-short o (Placed.Known i) h = omega arith
entry-short o Placed.Unknown h = omega (arith, entry_length o, leb-room (length o) h)
entry-short o (Placed.Ignored r) h = omega (arith, entry_length o, leb-room (length o) h)

note-short : (p : Placed) → length (note_by p) ≤ 2
unfolding order_entry
note-short (Placed.Known i) = omega arith
note-short Placed.Unknown = omega arith
note-short (Placed.Ignored IgnoredIeReason.Malformed) = omega arith
note-short (Placed.Ignored IgnoredIeReason.Repeated) = omega arith
note-short (Placed.Ignored IgnoredIeReason.OutOfSequence) = omega arith

-- ---- the row of an accepted element

-- it has n numbers or more in front of its end, and its header
pub record Placing (t : List Row) (n : ℕ) (e : DefElement) : Type 0 where
  pub place : ℕ
  pub has : e.place ≡ some place
  pub inside : 4 * place + 4 ≤ n
  pub below : place < 128
  pub headed : header (form (row_at t place)) ≤ length e.octets

-- where each has
abbrev pub Places : List Row → ℕ → ℕ → Bool → Type 0
Places t n start option = (m m' : Met) (at : ℕ) (s : List ℕ) (e : DefElement) → Stands t start option m at s e m' → is_accepted e.verdict ≡ true → Placing t n e

-- ---- the invariant

module _ (t : List Row) (n start : ℕ) (option : Bool) (part rows₀ kept₀ order₀ : List ℕ) where
  abbrev pub whole : Outcome
  whole = filled_from t (parted t start option part) 0 0 rows₀ kept₀ order₀

  pub record Filling (s : State) (k o : ℕ) (rows kept order : List ℕ) : Type 0 where
    pub left : ℕ
    pub left_is : s.at + left ≡ length part
    pub low : s.seen.low < 2 ^ 64
    pub rows_long : length rows ≡ length rows₀
    pub kept-long : length kept ≡ length kept₀
    pub order-long : length order ≡ length order₀
    pub room : Room (from t start option part s) left k o (length kept₀) (length order₀)
    pub tells : filled_from t (from t start option part s) k o rows kept order ≡ whole

  -- the same at equal numbers and lists
  pub moved : {s : State} {k k' o o' : ℕ} {rows rows' kept kept' order order' : List ℕ} → Filling s k o rows kept order → k' ≡ k → o' ≡ o → rows' ≡ rows → kept' ≡ kept → order' ≡ order
      → Filling s k' o' rows' kept' order'
  moved i a b c d e = rw (a, b, c, d, e) i

  module _ (ready : Ready t n start option part rows₀ kept₀ order₀) (places : Places t n start option) where
    pub begun : Filling start_state 0 0 rows₀ kept₀ order₀
    begun =
        record {
          left = length part;
          left_is = omega arith;
          low = omega arith;
          rows_long = refl;
          kept-long = refl;
          order-long = refl;
          room = rw (from_start t start option part) ready.room;
          tells = ap (λ (p : Parted). filled_from t p 0 0 rows₀ kept₀ order₀) (from_start t start option part);
        }

    module _ (s v : State) (e : Element) (k o : ℕ) (rows kept order : List ℕ) (i : Filling s k o rows kept order) (h : Nexts t start option part s e v) where
      abbrev d : DefElement
      d = h.element

      placed-is : e.placed ≡ placed_for (iei_at d) d.verdict
      unfolding element_of
      placed-is = ap (λ (x : Element). x.placed) h.is

      entry-is : kept_of_found e part ≡ entry d
      unfolding kept_of_found
      entry-is =
          ap (λ (a : ℕ). entry_by (take e.len (drop a part)) e.placed) h.starts
          ∙ ap (λ (x : List ℕ). entry_by x e.placed) (sym h.octets)
          ∙ ap (entry_by d.octets) placed-is

      behind : Behind (from t start option part v) (length (entry d)) (length (note d)) (i.left - e.len) k o (length kept₀) (length order₀)
      behind =
          room-behind d (from t start option part v) i.left e.len k o (length kept₀) (length order₀) h.parts
          (omega (arith, entry-short d.octets (placed_for (iei_at d) d.verdict) (omega (arith, h.long, h.some-octet)), h.long))
          (omega (arith, note-short (placed_for (iei_at d) d.verdict), h.some-octet)) (omega (arith, h.within, i.left_is)) i.room

      pub kept-fits : k + length (kept_of_found e part) ≤ length kept
      kept-fits = omega (arith, behind.fits_kept, ap length entry-is, i.kept-long)

      pub order-fits : o + length (note_by e.placed) ≤ length order
      order-fits = omega (arith, behind.fits-order, ap (λ (x : Placed). length (note_by x)) placed-is, i.order-long)

      starts_is : d.at ≡ s.at
      unfolding element_of
      starts_is = ap (λ (x : Element). x.start) (sym h.is) ∙ h.starts

      pub row_fits : RowFits t e rows
      unfolding element_of
      row_fits =
          subst (λ (x : Element). RowFits t x rows) (sym h.is)
          (fits_by t rows d.place d.verdict d.at (length d.octets) (iei_at d)
          (λ g.
          let a : Placing t n d = places _ _ _ _ _ h.stands g in
          record {
            place = a.place;
            has = a.has;
            inside = omega (arith, a.inside, ready.rows-room, i.rows_long);
            below = a.below;
            headed = a.headed;
            short = omega (arith, starts_is, h.long, h.within, ready.short);
          }))

      pub filled : Filling v (k + length (kept_of_found e part)) (o + length (note_by e.placed)) (row_entered t e rows) (over_at k (kept_of_found e part) kept) (over_at o (note_by e.placed) order)
      filled = moved next (ap (λ (x : List ℕ). k + length x) entry-is) (ap (λ (x : Placed). o + length (note_by x)) placed-is) (ap (λ (x : Element). row_entered t x rows) h.is) (ap (λ (x : List ℕ). over_at k x kept) entry-is) (ap (λ (x : Placed). over_at o (note_by x) order) placed-is)
        where
          kept_there : k + length (entry d) ≤ length kept
          kept_there = omega (arith, behind.fits_kept, i.kept-long)

          order-there : o + length (note d) ≤ length order
          order-there = omega (arith, behind.fits-order, i.order-long)

          next : Filling v (k + length (entry d)) (o + length (note d)) (row_entered t (element_of d) rows) (over_at k (entry d) kept) (over_at o (note d) order)
          next =
              record {
                left = i.left - e.len;
                left_is = omega (arith, h.further, h.within, i.left_is);
                low = h.low;
                rows_long = ap (λ (x : Element). length (row_entered t x rows)) (sym h.is) ∙ entered-long t e rows row_fits ∙ i.rows_long;
                kept-long = length-over_at k (entry d) kept kept_there ∙ i.kept-long;
                order-long = length-over_at o (note d) order order-there ∙ i.order-long;
                room = behind.room;
                tells = front t d (from t start option part v) k o rows kept order kept_there order-there ∙ ap (λ (p : Parted). filled_from t p k o rows kept order) (sym h.parts) ∙ i.tells;
              }

  -- at the end nothing is left; an element that is cut short ends the part
  module _ (s : State) (k o : ℕ) (rows kept order : List ℕ) (i : Filling s k o rows kept order) where
    pub ended : from t start option part s ≡ elements [] → done k o rows kept order ≡ whole
    unfolding kept_of entries_of entered_all
    ended e =
        same-done (omega arith) (omega arith) refl (sym (over_none k kept)) (sym (over_none o order))
        ∙ ap (λ (p : Parted). filled_from t p k o rows kept order) (sym e)
        ∙ i.tells

    pub cut-there : {a x n m : ℕ} → from t start option part s ≡ cut_short a x n m → cut a x n m ≡ whole
    cut-there e = ap (λ (p : Parted). filled_from t p k o rows kept order) (sym e) ∙ i.tells

-- ---- what is left of a part

-- one that decodes, with the octets used of each log
pub record Entered (t : List Row) (p : Parted) (k o : ℕ) (rows kept order rows' kept' order' : List ℕ) : Type 0 where
  pub decodes : p ≡ elements (elements_of p)
  pub kept-used : k ≡ length (kept_of (elements_of p))
  pub order-used : o ≡ length (entries_of (elements_of p))
  pub rows_are : rows' ≡ entered_all t (elements_of p) rows
  pub kept-is : kept' ≡ over (kept_of (elements_of p)) kept
  pub order_is : order' ≡ over (entries_of (elements_of p)) order

pub entered : (t : List Row) (p : Parted) (k o : ℕ) (rows kept order : List ℕ) {rows' kept' order' : List ℕ} → done k o rows' kept' order' ≡ filled_from t p 0 0 rows kept order
    → Entered t p k o rows kept order rows' kept' order'
unfolding elements_of over_at
entered t (cut_short a x n m) k o rows kept order e = cc
entered t (elements es) k o rows kept order {rows' = rows'} {kept' = kept'} {order' = order'} e =
    let a : k ≡ 0 + length (kept_of es) = cc in
    let b : o ≡ 0 + length (entries_of es) = cc in
    let c : rows' ≡ entered_all t es rows = cc in
    let d : kept' ≡ over_at 0 (kept_of es) kept = cc in
    let f : order' ≡ over_at 0 (entries_of es) order = cc in
    record { decodes = refl; kept-used = omega arith; order-used = omega arith; rows_are = c; kept-is = d; order_is = f }

pub cut_of : (t : List Row) (p : Parted) (k o : ℕ) (rows kept order : List ℕ) {a x n m : ℕ} → cut a x n m ≡ filled_from t p k o rows kept order → p ≡ cut_short a x n m
cut_of t (elements es) k o rows kept order e = cc
cut_of t (cut_short b y p q) k o rows kept order {a = a} {x = x} {n = n} {m = m} e =
    let i : a ≡ b = cc in
    let j : x ≡ y = cc in
    let l : n ≡ p = cc in
    let h : m ≡ q = cc in
    rw (i, j, l, h)

-- of a part that decodes, whatever was answered
pub entered-whole : (t : List Row) (p : Parted) → p ≡ elements (elements_of p) → (m : Result Tally Cut) {rows kept order rows' kept' order' : List ℕ} → outcome m rows' kept' order' ≡ filled_from t p 0 0 rows kept order
    → (k : ℕ) × ((o : ℕ) × Entered t p k o rows kept order rows' kept' order')
entered-whole t p d (Ok u) {rows = rows} {kept = kept} {order = order} e = (u.kept, (u.order, entered t p u.kept u.order rows kept order e))
entered-whole t p d (Err c) {rows = rows} {kept = kept} {order = order} e =
    let q : elements (elements_of p) ≡ cut_short c.start c.first c.left c.missing = sym d ∙ cut_of t p 0 0 rows kept order e in
    cc

-- a part is ready for other rows of the same length
pub still-ready : {t : List Row} {n start : ℕ} {option : Bool} {part rows rows' kept order : List ℕ} → Ready t n start option part rows kept order → length rows' ≡ length rows
    → Ready t n start option part rows' kept order
still-ready r l = record { short = r.short; rows-room = omega (arith, r.rows-room); room = r.room }
