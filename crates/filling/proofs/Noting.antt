-- Reading with an entry for each element by what measuring and filling say: each answer of the code is the definition's, with the lent
-- memory that it leaves. A refusal leaves all as it was; where reading is done, what was filled is the definition's.
use Prim.Native.Nat.{ℕ, ◌*◌, ◌≤◌, ◌<◌}
use native.Mathlib.Omega.{arith}
use mathlib.Core.Path.{◌≡◌, refl, ap, sym, ◌∙◌}
use mathlib.Core.List.{List, [], ◌∷◌}
use mathlib.Core.Bool.{Bool}
use borrow.Author.Tests.{lt-ltb, le-ltb}
use lib.ListN.{length}
use Rattle.std.specs.Prelude.{Ok, Err}
use Rattle.definitions.specs.Basic.{Answer, answer, refusal, most_octets}
use Rattle.definitions.specs.Rows.{Row, rows_of}
use Rattle.definitions.specs.Elements.{Element, Parted, elements, cut_short, elements_of, parted}
use Rattle.definitions.specs.Logs.{kept_of, entries_of}
use Rattle.definitions.specs.Reading.{Lent, Read, unread, cut_of}
use Rattle.measuring.specs.Measures.{measured}
use Rattle.by_index.specs.ByIndex.{rows_by}
use Rattle.filling.specs.Fills.{exact, Ready, Written}
use Rattle.filling.specs.Decodes.{Decoded, decoded_as, lent_of, Reads}
use Rattle.filling.specs.Noted.{noted_checks, noted_elements, noted, Allowed}
use Rattle.filling.specs.declared.DecodeError.{DecodeError}
use Rattle.filling.specs.declared.Room.{Room}
use Rattle.elements.specs.Steps.{cut_of as cut_made}
use Rattle.elements.specs.declared.element.Cut.{Cut}
use Rattle.elements.specs.declared.walk.Tally.{Tally}
use Rattle.filling.proofs.Filling.{Entered}

-- a refusal
pub refused : {r : Read} {l : Lent} {a : Answer} {d : Decoded} → r ≡ unread l a → decoded_as d ≡ a → Reads r d l.rows l.kept l.order
refused e q =
    record {
      answers = q ∙ ap (λ (x : Read). x.said) (sym e);
      rows_are = ap (λ (x : Read). x.rows) (sym e);
      kept-is = ap (λ (x : Read). x.kept) (sym e);
      order_is = ap (λ (x : Read). x.order) (sym e);
    }

-- ---- what a part needs

pub record Needs (p : Parted) (k o : ℕ) : Type 0 where
  pub decodes : p ≡ elements (elements_of p)
  pub kept : k ≡ length (kept_of (elements_of p))
  pub entries : o ≡ length (entries_of (elements_of p))

-- by measuring, and by entering
pub needed : (p : Parted) {u : Tally} → Ok u ≡ measured p → Needs p u.kept u.order
unfolding elements_of
needed (cut_short a x n m) e = cc
needed (elements es) {u = u} e =
    let a : u ≡ record { kept = length (kept_of es); order = length (entries_of es) } = cc in
    record { decodes = refl; kept = ap (λ (y : Tally). y.kept) a; entries = ap (λ (y : Tally). y.order) a }

pub needed-by : {t : List Row} {p : Parted} {k o : ℕ} {rows kept order rows' kept' order' : List ℕ} → Entered t p k o rows kept order rows' kept' order' → Needs p k o
needed-by e = record { decodes = e.decodes; kept = e.kept-used; entries = e.order-used }

pub cut-is : (p : Parted) {c : Cut} → Err c ≡ measured p → p ≡ cut_short c.start c.first c.left c.missing
cut-is (elements es) e = cc
cut-is (cut_short b y p q) {c = c} e =
    let i : c ≡ cut_made b y p q = cc in
    ap (λ (z : Cut). cut_short z.start z.first z.left z.missing) (sym i)

-- ---- by the first check that refuses

module _ (table index : List ℕ) (start : ℕ) (option : Bool) (part : List ℕ) (l : Lent) where
  abbrev t : List Row
  t = rows_by table index

  abbrev n : ℕ
  n = 4 * length (rows_of table)

  abbrev p : Parted
  p = parted t start option part

  abbrev r : Read
  r = noted table index start option part l

  pub note-long : most_octets < length part → r ≡ unread l (answer 3 [])
  unfolding noted noted_checks refusal
  note-long h = rw (lt-ltb most_octets (length part) h)

  module _ (short : length part ≤ most_octets) where
    pub note-rows : length l.rows < n → r ≡ unread l (answer 2 (1 ∷ []))
    unfolding noted noted_checks refusal
    note-rows h = rw (le-ltb most_octets (length part) short, lt-ltb (length l.rows) n h)

    module _ (room : n ≤ length l.rows) where
      pub note-cut : {a x m k : ℕ} → p ≡ cut_short a x m k → r ≡ unread l (answer 1 (a ∷ x ∷ m ∷ k ∷ []))
      unfolding noted noted_checks refusal cut_of
      note-cut e = rw (le-ltb most_octets (length part) short, le-ltb (length l.rows) n room, e)

      module _ (es : List Element) (e : p ≡ elements es) where
        pub note-kept : length l.kept < length (kept_of es) → r ≡ unread l (answer 2 (2 ∷ []))
        unfolding noted noted_checks refusal cut_of elements_of
        note-kept h = rw (le-ltb most_octets (length part) short, le-ltb (length l.rows) n room, e, lt-ltb (length l.kept) (length (kept_of es)) h)

        module _ (kept : length (kept_of es) ≤ length l.kept) where
          pub note-order : length l.order < length (entries_of es) → r ≡ unread l (answer 2 (3 ∷ []))
          unfolding noted noted_checks refusal cut_of elements_of
          note-order h =
              rw (le-ltb most_octets (length part) short, le-ltb (length l.rows) n room, e, le-ltb (length l.kept) (length (kept_of es)) kept, lt-ltb (length l.order) (length (entries_of es)) h)

          pub note-done : length (entries_of es) ≤ length l.order → r ≡ noted_elements t n l es
          unfolding noted noted_checks refusal cut_of elements_of
          note-done h =
              rw (le-ltb most_octets (length part) short, le-ltb (length l.rows) n room, e, le-ltb (length l.kept) (length (kept_of es)) kept, le-ltb (length l.order) (length (entries_of es)) h)

  -- what is left of a part that nothing refuses, once it is written
  pub written : {u : Tally} → Allowed table index start option part l u → {rows' kept' order' : List ℕ} → Written t n (elements_of p) l.rows l.kept l.order rows' kept' order' → Reads r (Ok u) rows' kept' order'
  unfolding noted_elements
  written a w =
      record {
        answers = a.answers;
        rows_are = w.rows_are ∙ ap (λ (x : Read). x.rows) (sym a.is);
        kept-is = w.kept-is ∙ ap (λ (x : Read). x.kept) (sym a.is);
        order_is = w.order_is ∙ ap (λ (x : Read). x.order) (sym a.is);
      }

-- ---- the answers

module _ (table index : List ℕ) (start : ℕ) (option : Bool) (part rows kept order : List ℕ) where
  abbrev l : Lent
  l = lent_of rows kept order

  pub long : most_octets < length part → Reads (r table index start option part l) (Err DecodeError.TooLong) rows kept order
  long h = refused {l = l} (note-long table index start option part l h) refl

  module _ (short : length part ≤ most_octets) where
    pub no_rows : length rows < n table index start option part l → Reads (r table index start option part l) (Err (DecodeError.NoRoom Room.Rows)) rows kept order
    no_rows h = refused {l = l} (note-rows table index start option part l short h) refl

    module _ (room : n table index start option part l ≤ length rows) where
      pub cut_short_lem : {c : Cut} → p table index start option part l ≡ cut_short c.start c.first c.left c.missing → Reads (r table index start option part l) (Err (DecodeError.CutShort c)) rows kept order
      cut_short_lem e = refused {l = l} (note-cut table index start option part l short room e) refl

      module _ (u : Tally) (h : Needs (p table index start option part l) u.kept u.order) where
        abbrev es : List Element
        es = elements_of (p table index start option part l)

        pub no-kept : length kept < u.kept → Reads (r table index start option part l) (Err (DecodeError.NoRoom Room.Kept)) rows kept order
        no-kept q = refused {l = l} (note-kept table index start option part l short room es h.decodes (omega (arith, h.kept))) refl

        module _ (kept-room : u.kept ≤ length kept) where
          pub no-order : length order < u.order → Reads (r table index start option part l) (Err (DecodeError.NoRoom Room.Order)) rows kept order
          no-order q = refused {l = l} (note-order table index start option part l short room es h.decodes (omega (arith, h.kept)) (omega (arith, h.entries))) refl

          module _ (order-room : u.order ≤ length order) where
            pub ready : Ready (t table index start option part l) (n table index start option part l) start option part rows kept order
            ready = record { short = short; rows-room = room; room = exact h.decodes (omega (arith, h.kept)) (omega (arith, h.entries)) }

            pub allowed : Allowed table index start option part l u
            unfolding noted_elements
            allowed =
                let e : r table index start option part l ≡ noted_elements (t table index start option part l) (n table index start option part l) l es =
                note-done table index start option part l short room es h.decodes (omega (arith, h.kept)) (omega (arith, h.entries)) in
                record { ready = ready; decodes = h.decodes; is = e; answers = rw (h.kept, h.entries) (ap (λ (x : Read). x.said) (sym e)) }

            pub done : {rows' kept' order' : List ℕ} → Written (t table index start option part l) (n table index start option part l) es rows kept order rows' kept' order'
                → Reads (r table index start option part l) (Ok u) rows' kept' order'
            done w = written table index start option part l allowed w
