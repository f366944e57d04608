-- By the table's own index a part is one of which the rows that table and index say say all just where the table does, and its rows are
-- the table's. By induction on the elements that stand in the part: an element's IEI is its row's first by both.
use Prim.Native.Nat.{ℕ, suc, ◌+◌, ◌*◌, ◌<◌}
use mathlib.Core.Path.{◌≡◌, refl, ap, sym, ◌∙◌}
use mathlib.Core.List.{List, ◌∷◌}
use mathlib.Core.Bool.{Bool, true, false, ◌&&◌}
use mathlib.Core.Option.{none, some}
use lib.ListN.{length, get_or, replicate}
use lib.Seq.{get_or-drop}
use lib.Dec.{eqb, leb}
use Rattle.definitions.specs.Basic.{pick, over}
use Rattle.definitions.specs.Rows.{Row, rows_of, row_at, form, first_iei, first_bad, iei_of, place_of}
use Rattle.definitions.specs.Elements.{Element, iei_at, is_accepted, Met, stranger, known, Parted, elements, cut_short, elements_of, parted}
use Rattle.definitions.specs.Logs.{plain_at, plain_from}
use Rattle.definitions.specs.Reading.{place_rows}
use Rattle.definitions.proofs.Steps.{Stands, strange, placed, Reads, end, more, reads, front-first, front-octets}
use Rattle.definitions.proofs.TableLaws.{few-places}
use Rattle.rows.specs.Indexed.{Indexed}
use Rattle.by_index.specs.ByIndex.{rows_by}
use Rattle.by_index.proofs.Rows.{entry-is}
use Rattle.definitions.proofs.TableLaws.{iei-octet}
use Rattle.by_index.proofs.Own.{parted-same}
use Rattle.plain_reading.specs.Entered.{entered_all}
use Rattle.plain_reading.specs.Plains.{plain_in, Plainly}
use Rattle.plain_reading.proofs.Copied.{plain-decodes}
use Rattle.filling.specs.Noted.{Unplain}
use Rattle.filling.proofs.ByIndex.{below-most}
use Rattle.filling.proofs.Own.{rows_same}
use Rattle.plain_by_table.specs.PlainBy.{holds, PlainBy}
use Rattle.plain_by_table.proofs.Held.{Held, holding, held}
use Rattle.plain_by_table.proofs.First.{first-same}

module _ (table index : List ℕ) (i : Indexed table index) where
  abbrev t : List Row
  t = rows_of table

  abbrev u : List Row
  u = rows_by table index

  -- ---- the first IEI of an element's row

  iei-same : (x : ℕ) → x < 256 → (k : ℕ) → place_of u (iei_of x) ≡ some k → eqb (iei_of x) (first_iei u k) ≡ eqb (iei_of x) (first_iei t k)
  iei-same x h k p =
      first-same table index k (below-most table index (iei_of x) k p) (iei_of x) (iei-octet x h) (entry-is table index (iei_of x) k (iei-octet x h) p)
      ∙ ap (eqb (iei_of x)) (i.whole.first k)

  front_same : {start : ℕ} {option : Bool} {m m' : Met} {at : ℕ} {s : List ℕ} {e : Element} → Stands u start option m at s e m' → ((j : ℕ) → get_or s j 0 < 256) → (es : List Element) → ((n : ℕ) → plain_from u n es ≡ plain_from t n es)
      → (least : ℕ) → plain_from u least (e ∷ es) ≡ plain_from t least (e ∷ es)
  unfolding plain_from plain_at stranger known iei_at
  front_same (strange p r) o es h least = refl
  front_same {option = option} {m = m} {at = at} (placed {x = x} {xs = xs} k p) o es h least = by (is_accepted (known u option m at (x ∷ xs) k).verdict) (iei_at (known u option m at (x ∷ xs) k)) (ap iei_of (front-first (front-octets (form (row_at u k)) x xs)))
    where
      by : (v : Bool) (iei : ℕ) → iei ≡ iei_of x → ((v && (leb least k && eqb iei (first_iei u k))) && plain_from u (suc k) es) ≡ ((v && (leb least k && eqb iei (first_iei t k))) && plain_from t (suc k) es)
      by v iei e = rw (e, iei-same x (o 0) k p, h (suc k))

  all_same : {start : ℕ} {option : Bool} {m : Met} {at : ℕ} {s : List ℕ} {es : List Element} → Reads u start option m at s es → ((j : ℕ) → get_or s j 0 < 256) → (least : ℕ) → plain_from u least es ≡ plain_from t least es
  unfolding plain_from
  all_same end o least = refl
  all_same (more {s = s} {e = e} {es = es} d r) o least =
      front_same d o es (all_same r (λ j. rw (get_or-drop (length e.octets) s j 0) (o (length e.octets + j)))) least

  -- ---- of a whole part

  module _ (start : ℕ) (option : Bool) (part : List ℕ) (octets : (j : ℕ) → get_or part j 0 < 256) where
    parts : parted u start option part ≡ parted t start option part
    parts = parted-same table index i start option part octets

    plain-same : plain_in u 0 (parted u start option part) ≡ plain_in t 0 (parted t start option part)
    plain-same = ap (plain_in u 0) parts ∙ by (parted t start option part) parts
      where
        by : (q : Parted) → parted u start option part ≡ q → plain_in u 0 q ≡ plain_in t 0 q
        by (elements es) e = all_same (reads u start option e) octets 0
        by (cut_short a x n m) e = refl

    own : (rows : List ℕ) {r : Bool} {rows' : List ℕ} → PlainBy table index start option part rows r rows' → holds table part (length rows) ≡ true → Plainly t (parted t start option part) r rows rows'
    own rows {r} w h = record { is = is; rows_are = w.rows_are ∙ by r is }
      where
        is : r ≡ plain_in t 0 (parted t start option part)
        is = w.is ∙ ap (λ (b : Bool). b && plain_in u 0 (parted u start option part)) h ∙ plain-same

        by : (b : Bool) → b ≡ plain_in t 0 (parted t start option part)
            → pick b (entered_all u (elements_of (parted u start option part)) (over (replicate (4 * length t) 0) rows)) rows ≡ pick b (over (place_rows t (elements_of (parted t start option part))) rows) rows
        by true e =
            ap (λ (q : Parted). entered_all u (elements_of q) (over (replicate (4 * length t) 0) rows)) parts
            ∙ rows_same table index i start option part octets rows (elements_of (parted t start option part)) (plain-decodes t (parted t start option part) (sym e))
        by false e = refl

-- what was answered by any index, and by the table's own
pub answers : (table index part rows : List ℕ) → ((j : ℕ) → get_or part j 0 < 256) → {r : Bool} {rows' : List ℕ} → ((start : ℕ) (option : Bool) → PlainBy table index start option part rows r rows')
    → ((start : ℕ) (option : Bool) → PlainBy table index start option part rows r rows')
    × (Indexed table index → holds table part (length rows) ≡ true → (start : ℕ) (option : Bool) → Plainly (rows_of table) (parted (rows_of table) start option part) r rows rows')
answers table index part rows octets w = (w, λ i h start option. own table index i start option part octets rows (w start option) h)

-- ---- for who asks

both : (a b : Bool) → true ≡ (a && b) → a ≡ true
both true b e = refl
both false b e = sym e

-- where the answer is true, the limits hold; where it is false, the rows are as they were
pub was-held : {table index : List ℕ} {start : ℕ} {option : Bool} {part rows rows' : List ℕ} → PlainBy table index start option part rows true rows' → Held table part (length rows)
was-held {table} {part = part} {rows = rows} w = held table part (length rows) (both (holds table part (length rows)) _ w.is)

pub unmoved : {table index : List ℕ} {start : ℕ} {option : Bool} {part rows rows' : List ℕ} → PlainBy table index start option part rows false rows' → rows' ≡ rows
unmoved w = w.rows_are

-- and the table, one that passes, does not say all of the part
pub unplain : (table : List ℕ) (start : ℕ) (option : Bool) (part rows : List ℕ) {rows' : List ℕ} → first_bad (rows_of table) ≡ none
    → (holds table part (length rows) ≡ true → Plainly (rows_of table) (parted (rows_of table) start option part) false rows rows') → Unplain (rows_of table) start option part rows
unplain table start option part rows passes f short room = sym (f (holding table part (length rows) (record { short = short; few = few-places (rows_of table) passes; room-is = room }))).is
