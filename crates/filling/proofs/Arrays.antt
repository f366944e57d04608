-- What filling arrays says: where they hold what a part may need, what was entered of one that decodes, or the cut.
-- Each answer is that of the part; where the arrays may not hold all, nothing is said of it.
use Prim.Native.Nat.{ℕ, ◌*◌, ◌≤◌}
use mathlib.Core.Path.{◌≡◌, refl, ap, sym, ◌∙◌}
use mathlib.Core.List.{List}
use mathlib.Core.Bool.{Bool, true, false}
use borrow.Author.Tests.{le-leb, leb-true}
use lib.ListN.{length, replicate}
use lib.Dec.{leb}
use Rattle.std.specs.Prelude.{Ok, Err}
use Rattle.definitions.specs.Basic.{most_octets}
use Rattle.definitions.specs.Rows.{Row, rows_of}
use Rattle.definitions.specs.Elements.{Parted, elements, cut_short, elements_of, parted}
use Rattle.definitions.specs.Logs.{kept_of, entries_of}
use Rattle.definitions.specs.Reading.{Lent}
use Rattle.definitions.proofs.RowLaws.{both}
use Rattle.by_index.specs.ByIndex.{rows_by}
use Rattle.filling.specs.Decodes.{lent_of}
use Rattle.filling.specs.Fills.{done, cut, filled_from}
use Rattle.filling.specs.Filled.{Fill, holds, filled_in, filling, Leaves}
use Rattle.filling.specs.declared.FillError.{FillError}
use Rattle.elements.specs.Steps.{cut_of as cut_made}
use Rattle.elements.specs.declared.element.Cut.{Cut}
use Rattle.elements.specs.declared.walk.Tally.{Tally}
use Rattle.filling.proofs.Filling.{Entered, entered, cut_of}

module _ (table index : List ℕ) (start : ℕ) (option : Bool) (part rows kept order : List ℕ) where
  abbrev t : List Row
  t = rows_by table index

  abbrev p : Parted
  p = parted t start option part

  abbrev l : Lent
  l = lent_of rows kept order

  abbrev f : Fill
  f = filling table index start option part l

  -- ---- where something is too short

  pub no_room : (holds table part l ≡ false) → Leaves f (Err FillError.NoRoom) rows kept order
  unfolding filling
  no_room h = rw h (record { answers = refl; rows_are = refl; kept-is = refl; order_is = refl })

  -- what a part may need is there
  pub record Holds : Type 0 where
    pub short : length part ≤ most_octets
    pub rows-room : 4 * length (rows_of table) ≤ length rows
    pub kept-room : 2 * length part ≤ length kept
    pub order-room : 2 * length part ≤ length order

  pub held : (holds table part l ≡ true) → Holds
  unfolding holds
  held h =
      let a = both (leb (length part) most_octets) _ h in
      let b = both (leb (4 * length (rows_of table)) (length rows)) _ a.1 in
      let c = both (leb (2 * length part) (length kept)) (leb (2 * length part) (length order)) b.1 in
      record {
        short = leb-true (length part) most_octets a.0;
        rows-room = leb-true (4 * length (rows_of table)) (length rows) b.0;
        kept-room = leb-true (2 * length part) (length kept) c.0;
        order-room = leb-true (2 * length part) (length order) c.1;
      }

  module _ (short : length part ≤ most_octets) where
    module _ (room : 4 * length (rows_of table) ≤ length rows) where
      module _ (kept-room : 2 * length part ≤ length kept) where
        module _ (order-room : 2 * length part ≤ length order) where
          fits : holds table part l ≡ true
          unfolding holds
          fits = rw (le-leb (length part) most_octets short, le-leb (4 * length (rows_of table)) (length rows) room, le-leb (2 * length part) (length kept) kept-room, le-leb (2 * length part) (length order) order-room)

          is : f ≡ filled_in t p l
          unfolding filling
          is = rw fits

          -- ---- where nothing is

          by-entered : (q : Parted) {k o : ℕ} {rows' kept' order' : List ℕ} → Entered t q k o rows kept order rows' kept' order' → Leaves (filled_in t q l) (Ok (record { kept = k; order = o })) rows' kept' order'
          unfolding elements_of
          by-entered (elements es) e = record { answers = rw (e.kept-used, e.order-used); rows_are = e.rows_are; kept-is = e.kept-is; order_is = e.order_is }
          by-entered (cut_short a x n m) e = let w = e.decodes in cc

          pub all-entered : {u : Tally} {rows' kept' order' : List ℕ} → done u.kept u.order rows' kept' order' ≡ filled_from t p 0 0 rows kept order → Leaves f (Ok u) rows' kept' order'
          all-entered {u} e = rw is (by-entered p (entered t p u.kept u.order rows kept order e))

          pub all-cut : {c : Cut} {rows' kept' order' : List ℕ} → cut c.start c.first c.left c.missing ≡ filled_from t p 0 0 rows kept order → rows' ≡ replicate (length rows) 0 → kept' ≡ replicate (length kept) 0 → order' ≡ replicate (length order) 0
              → Leaves f (Err (FillError.CutShort c)) rows' kept' order'
          all-cut e x y z = rw (is, cut_of t p 0 0 rows kept order e) (record { answers = refl; rows_are = x; kept-is = y; order_is = z })

          -- ---- and back

          back-entered : (q : Parted) {u : Tally} {rows' kept' order' : List ℕ} → Leaves (filled_in t q l) (Ok u) rows' kept' order' → Entered t q u.kept u.order rows kept order rows' kept' order'
          unfolding elements_of
          back-entered (elements es) {u = u} w =
              let e = w.answers in
              let z : u ≡ record { kept = length (kept_of es); order = length (entries_of es) } = cc in
              record { decodes = refl; kept-used = ap (λ (y : Tally). y.kept) z; order-used = ap (λ (y : Tally). y.order) z; rows_are = w.rows_are; kept-is = w.kept-is; order_is = w.order_is }
          back-entered (cut_short a x n m) w = let e = w.answers in cc

          pub was-entered : {u : Tally} {rows' kept' order' : List ℕ} → Leaves f (Ok u) rows' kept' order' → Entered t p u.kept u.order rows kept order rows' kept' order'
          was-entered w = back-entered p (rw is at w)

          back_cut : (q : Parted) {c : Cut} → Err (FillError.CutShort c) ≡ (filled_in t q l).said → q ≡ cut_short c.start c.first c.left c.missing
          back_cut (elements es) e = cc
          back_cut (cut_short b y u v) {c} e =
              let i : c ≡ cut_made b y u v = cc in
              ap (λ (z : Cut). cut_short z.start z.first z.left z.missing) (sym i)

          pub was-cut : {c : Cut} {rows' kept' order' : List ℕ} → Leaves f (Err (FillError.CutShort c)) rows' kept' order' → p ≡ cut_short c.start c.first c.left c.missing
          was-cut w = back_cut p (w.answers ∙ ap (λ (y : Fill). y.said) is)

          back-room : (q : Parted) → Err FillError.NoRoom ≡ (filled_in t q l).said → ⊥
          back-room (elements es) e = cc
          back-room (cut_short b y u v) e = cc

          pub was-room : {rows' kept' order' : List ℕ} → Leaves f (Err FillError.NoRoom) rows' kept' order' → ⊥
          was-room w = back-room p (w.answers ∙ ap (λ (y : Fill). y.said) is)
