-- Reading by its checks: each answer of the code is the definition's, with the lent memory that it leaves.
-- A refusal leaves all as it was; where the table says all of a part, nothing is needed of the logs.
use Prim.Native.Nat.{ℕ, ◌*◌, ◌≤◌, ◌<◌}
use native.Mathlib.Omega.{arith}
use mathlib.Core.Path.{◌≡◌, refl, ap, sym, ◌∙◌}
use mathlib.Core.List.{List, []}
use mathlib.Core.Bool.{Bool, true, false≢true}
use mathlib.Core.Option.{none}
use lib.ListN.{length}
use Rattle.definitions.specs.Basic.{over, most_octets}
use Rattle.definitions.specs.Rows.{Row, rows_of, first_bad}
use Rattle.definitions.specs.Elements.{Element, Parted, elements, cut_short, elements_of, parted}
use Rattle.definitions.specs.Logs.{kept_of, order_of}
use Rattle.definitions.specs.Reading.{Lent, Read, place_rows, read_elements, reading}
use Rattle.definitions.proofs.PlainLaws.{kept-none}
use Rattle.definitions.proofs.Readings.{read-long, read-rows, read-cut, read_done}
use Rattle.plain_reading.specs.Plains.{plain_in, Plainly}
use Rattle.plain_reading.proofs.Copied.{plain-decodes}
use Rattle.std.specs.Prelude.{Ok, Err}
use Rattle.filling.specs.Decodes.{Decoded, lent_of, Reads}
use Rattle.filling.specs.declared.DecodeError.{DecodeError}
use Rattle.filling.specs.declared.Room.{Room}
use Rattle.elements.specs.declared.element.Cut.{Cut}
use Rattle.elements.specs.declared.walk.Tally.{Tally}
use Rattle.filling.proofs.Noting.{refused}

-- ---- a part of which the table says all

plain-order : (t : List Row) (p : Parted) → plain_in t 0 p ≡ true → order_of t (elements_of p) ≡ []
unfolding elements_of order_of
plain-order t (elements es) e = rw e
plain-order t (cut_short a x n m) e = absurd (false≢true e)

plain-kept : (t : List Row) (p : Parted) → plain_in t 0 p ≡ true → kept_of (elements_of p) ≡ []
unfolding elements_of
plain-kept t (elements es) e = kept-none t 0 es e
plain-kept t (cut_short a x n m) e = absurd (false≢true e)

-- ---- the answers

module _ (table : List ℕ) (start : ℕ) (option : Bool) (part rows kept order : List ℕ) (passes : first_bad (rows_of table) ≡ none) where
  abbrev t : List Row
  t = rows_of table

  abbrev l : Lent
  l = lent_of rows kept order

  abbrev p : Parted
  p = parted t start option part

  abbrev r : Read
  r = reading table start option part l

  pub long : most_octets < length part → Reads r (Err DecodeError.TooLong) rows kept order
  long h = refused {l = l} (read-long table start option part l passes h) refl

  module _ (short : length part ≤ most_octets) where
    pub no_rows : length rows < 4 * length t → Reads r (Err (DecodeError.NoRoom Room.Rows)) rows kept order
    no_rows h = refused {l = l} (read-rows table start option part l passes short h) refl

    module _ (room : 4 * length t ≤ length rows) where
      pub cut_short_lem : {c : Cut} → p ≡ cut_short c.start c.first c.left c.missing → Reads r (Err (DecodeError.CutShort c)) rows kept order
      cut_short_lem e = refused {l = l} (read-cut table start option part l passes short room e) refl

      -- what is left where reading is done
      pub answered : {u : Tally} {rows' kept' order' : List ℕ} → let es : List Element = elements_of p in p ≡ elements es → u.kept ≡ length (kept_of es) → u.order ≡ length (order_of t es) → u.kept ≤ length kept → u.order ≤ length order
          → rows' ≡ over (place_rows t es) rows → kept' ≡ over (kept_of es) kept → order' ≡ over (order_of t es) order → Reads r (Ok u) rows' kept' order'
      unfolding read_elements
      answered d k-is o_is k-room o-room rows_are kept-is order_is =
          let e : r ≡ read_elements t l (elements_of p) = read_done table start option part l passes short room (elements_of p) d (omega arith) (omega arith) in
          record {
            answers = rw (k-is, o_is) (ap (λ (x : Read). x.said) (sym e));
            rows_are = rows_are ∙ ap (λ (x : Read). x.rows) (sym e);
            kept-is = kept-is ∙ ap (λ (x : Read). x.kept) (sym e);
            order_is = order_is ∙ ap (λ (x : Read). x.order) (sym e);
          }

      -- where the table says it all, nothing is needed of the logs
      pub all_plain : {rows' : List ℕ} → Plainly t p true rows rows' → Reads r (Ok (record { kept = 0; order = 0 })) rows' kept order
      unfolding over
      all_plain w =
          let k : kept_of (elements_of p) ≡ [] = plain-kept t p (sym w.is) in
          let o : order_of t (elements_of p) ≡ [] = plain-order t p (sym w.is) in
          answered (plain-decodes t p (sym w.is)) (rw k) (rw o) (omega arith) (omega arith) w.rows_are (rw k) (rw o)

-- the same of an equal reading
pub moved : {r r' : Read} {d : Decoded} {rows kept order : List ℕ} → r' ≡ r → Reads r d rows kept order → Reads r' d rows kept order
moved e h = rw e h
