-- Reading into the two parts of a block by what measuring says of a part of which the table does not say all: too short a part is refused,
-- and where both have room the reading is done, so that its answer is the block's too.
use Prim.Native.Nat.{ℕ, ◌*◌, ◌≤◌, ◌<◌}
use native.Mathlib.Omega.{arith}
use mathlib.Core.Path.{◌≡◌, refl, ap, ◌∙◌}
use mathlib.Core.List.{List}
use mathlib.Core.Bool.{Bool, false}
use mathlib.Core.Option.{none}
use lib.ListN.{length}
use Rattle.std.specs.Prelude.{Ok, Err}
use Rattle.definitions.specs.Basic.{most_octets}
use Rattle.definitions.specs.Rows.{Row, rows_of, first_bad}
use Rattle.definitions.specs.Elements.{Element, Parted, elements, cut_short, elements_of, parted}
use Rattle.definitions.specs.Logs.{kept_of, entries_of, order_of}
use Rattle.definitions.specs.Reading.{Lent, Read, read_elements, reading}
use Rattle.definitions.proofs.Readings.{read_kept, read-order, read_done}
use Rattle.definitions.proofs.Blocks.{in_one}
use Rattle.measuring.specs.Measures.{measured}
use Rattle.plain_reading.specs.Plains.{plain_in}
use Rattle.elements.specs.declared.walk.Tally.{Tally}
use Rattle.filling.specs.Decodes.{Decoded, decoded_as, lent_of, Reads}
use Rattle.filling.specs.declared.DecodeError.{DecodeError}
use Rattle.filling.specs.declared.Room.{Room}
use Rattle.filling.proofs.Noting.{refused}
use Rattle.noting.proofs.Own.{entries-are}

-- what measuring says of such a part
pub record Needs (t : List Row) (p : Parted) (u : Tally) : Type 0 where
  pub decodes : p ≡ elements (elements_of p)
  pub kept : u.kept ≡ length (kept_of (elements_of p))
  pub order : u.order ≡ length (order_of t (elements_of p))

pub needed : (t : List Row) (p : Parted) → plain_in t 0 p ≡ false → {u : Tally} → Ok u ≡ measured p → Needs t p u
unfolding elements_of
needed t (cut_short a x n m) f e = cc
needed t (elements es) f {u = u} e =
    let a : u ≡ record { kept = length (kept_of es); order = length (entries_of es) } = cc in
    record { decodes = refl; kept = ap (λ (y : Tally). y.kept) a; order = ap (λ (y : Tally). y.order) a ∙ ap length (entries-are t es f) }

-- ---- the answers

module _ (table : List ℕ) (start : ℕ) (option : Bool) (part rows kept order : List ℕ) (passes : first_bad (rows_of table) ≡ none) (short : length part ≤ most_octets) (room : 4 * length (rows_of table) ≤ length rows) (u : Tally)
    (n : Needs (rows_of table) (parted (rows_of table) start option part) u) where
  abbrev t : List Row
  t = rows_of table

  abbrev l : Lent
  l = lent_of rows kept order

  abbrev r : Read
  r = reading table start option part l

  abbrev es : List Element
  es = elements_of (parted t start option part)

  pub no-kept : length kept < u.kept → Reads r (Err (DecodeError.NoRoom Room.Kept)) rows kept order
  no-kept h = refused {l = l} (read_kept table start option part l passes short room es n.decodes (omega (arith, n.kept))) refl

  module _ (kept-room : u.kept ≤ length kept) where
    pub no-order : length order < u.order → Reads r (Err (DecodeError.NoRoom Room.Order)) rows kept order
    no-order h = refused {l = l} (read-order table start option part l passes short room es n.decodes (omega (arith, n.kept)) (omega (arith, n.order))) refl

    module _ (order-room : u.order ≤ length order) where
      -- an answer that is done is no refusal for want of room
      pub done-here : {d : Decoded} {rows' kept' order' : List ℕ} → Reads r d rows' kept' order' → in_one (decoded_as d) ≡ decoded_as d
      unfolding read_elements
      done-here w =
          let e : r ≡ read_elements t l es = read_done table start option part l passes short room es n.decodes (omega (arith, n.kept)) (omega (arith, n.order)) in
          let q = w.answers ∙ ap (λ (x : Read). x.said) e in
          rw q refl
