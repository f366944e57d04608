-- By the index of a table that passes, noting each element is reading, where the table does not say all of the part.
-- The parts and the forms of the rows are the same; each check refuses the same, and the rows entered are the definition's.
use Prim.Native.Nat.{ℕ, ◌*◌, ◌≤◌, ◌<◌}
use native.Mathlib.Omega.{arith}
use mathlib.Core.Path.{◌≡◌, refl, ap, subst, sym, ◌∙◌}
use mathlib.Core.List.{List}
use mathlib.Core.Bool.{Bool, true, false}
use mathlib.Core.Option.{none}
use borrow.Author.Tests.{ltb-true, ltb-false}
use lib.ListN.{length, get_or}
use lib.Dec.{ltb}
use Rattle.definitions.specs.Basic.{most_octets}
use Rattle.definitions.specs.Rows.{Row, rows_of, first_bad}
use Rattle.definitions.specs.Elements.{Element, Parted, elements, cut_short, parted}
use Rattle.definitions.specs.Logs.{kept_of, entries_of, order_of}
use Rattle.definitions.specs.Reading.{Lent, Read, read_elements, reading}
use Rattle.definitions.proofs.Readings.{read-long, read-rows, read-cut, read_kept, read-order, read_done}
use Rattle.rows.specs.Indexed.{Indexed}
use Rattle.by_index.specs.ByIndex.{rows_by}
use Rattle.by_index.proofs.Own.{parted-same}
use Rattle.plain_reading.specs.Plains.{plain_in}
use Rattle.filling.specs.Decodes.{Decoded, lent_of, Reads as Answers}
use Rattle.filling.specs.Noted.{noted_elements, noted, Unplain}
use Rattle.filling.proofs.Own.{rows_same}
use Rattle.filling.proofs.Noting.{note-long, note-rows, note-cut, note-kept, note-order, note-done}

-- the log of a part of which the table does not say all has an entry for each element
pub entries-are : (t : List Row) (es : List Element) → plain_in t 0 (elements es) ≡ false → entries_of es ≡ order_of t es
unfolding order_of
entries-are t es f = rw f

module _ (table index : List ℕ) (i : Indexed table index) where
  abbrev t : List Row
  t = rows_of table

  abbrev u : List Row
  u = rows_by table index

  module _ (passes : first_bad t ≡ none) (start : ℕ) (option : Bool) (part : List ℕ) (octets : (j : ℕ) → get_or part j 0 < 256) (l : Lent) where
    parts : parted u start option part ≡ parted t start option part
    parts = parted-same table index i start option part octets

    left-same : (es : List Element) → parted t start option part ≡ elements es → entries_of es ≡ order_of t es → noted_elements u (4 * length t) l es ≡ read_elements t l es
    unfolding noted_elements read_elements
    left-same es e q = rw (rows_same table index i start option part octets l.rows es e, q)

    pub own : Unplain t start option part l.rows → noted table index start option part l ≡ reading table start option part l
    own f = long (ltb most_octets (length part)) refl
      where
        R : Type 0
        R = noted table index start option part l ≡ reading table start option part l

        order : (b : Bool) (es : List Element) → length part ≤ most_octets → 4 * length t ≤ length l.rows → parted t start option part ≡ elements es → entries_of es ≡ order_of t es → length (kept_of es) ≤ length l.kept
            → ltb (length l.order) (length (entries_of es)) ≡ b → R
        order true es h g e q k b =
            let o = ltb-true _ _ b in
            note-order table index start option part l h g es (parts ∙ e) k o ∙ sym (read-order table start option part l passes h g es e k (omega (arith, o, ap length q)))
        order false es h g e q k b =
            let o = ltb-false _ _ b in
            note-done table index start option part l h g es (parts ∙ e) k o ∙ left-same es e q ∙ sym (read_done table start option part l passes h g es e k (omega (arith, o, ap length q)))

        kept : (b : Bool) (es : List Element) → length part ≤ most_octets → 4 * length t ≤ length l.rows → parted t start option part ≡ elements es → entries_of es ≡ order_of t es
            → ltb (length l.kept) (length (kept_of es)) ≡ b → R
        kept true es h g e q b =
            let k = ltb-true _ _ b in
            note-kept table index start option part l h g es (parts ∙ e) k ∙ sym (read_kept table start option part l passes h g es e k)
        kept false es h g e q b = order (ltb (length l.order) (length (entries_of es))) es h g e q (ltb-false _ _ b) refl

        part-is : (p : Parted) → length part ≤ most_octets → 4 * length t ≤ length l.rows → parted t start option part ≡ p → plain_in t 0 p ≡ false → R
        part-is (elements es) h g e q = kept (ltb (length l.kept) (length (kept_of es))) es h g e (entries-are t es q) refl
        part-is (cut_short a x n m) h g e q = note-cut table index start option part l h g (parts ∙ e) ∙ sym (read-cut table start option part l passes h g e)

        rows : (b : Bool) → length part ≤ most_octets → ltb (length l.rows) (4 * length t) ≡ b → R
        rows true h b =
            let g = ltb-true _ _ b in
            note-rows table index start option part l h g ∙ sym (read-rows table start option part l passes h g)
        rows false h b =
            let g = ltb-false _ _ b in
            part-is (parted t start option part) h g refl (f h g)

        long : (b : Bool) → ltb most_octets (length part) ≡ b → R
        long true b =
            let h = ltb-true _ _ b in
            note-long table index start option part l h ∙ sym (read-long table start option part l passes h)
        long false b = rows (ltb (length l.rows) (4 * length t)) (ltb-false _ _ b) refl

-- what was noted by any index, and read by the table's own
pub answers : (table index : List ℕ) (start : ℕ) (option : Bool) (part rows kept order : List ℕ) → ((j : ℕ) → get_or part j 0 < 256) → {d : Decoded} {rows' kept' order' : List ℕ}
    → Answers (noted table index start option part (lent_of rows kept order)) d rows' kept' order'
    → Answers (noted table index start option part (lent_of rows kept order)) d rows' kept' order'
    × (Indexed table index → first_bad (rows_of table) ≡ none → Unplain (rows_of table) start option part rows → Answers (reading table start option part (lent_of rows kept order)) d rows' kept' order')
answers table index start option part rows kept order octets {d} {rows'} {kept'} {order'} h =
    (h, λ i g u. subst (λ (x : Read). Answers x d rows' kept' order') (own table index i g start option part octets (lent_of rows kept order) u) h)
