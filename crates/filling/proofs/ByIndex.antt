-- The rows of accepted elements by a table and any index: a row that the table has not takes none, so that its place is one of the
-- table's; and entering by a row's numbers is entering by the row.
use Prim.Native.Nat.{ℕ, zero, suc, ◌*◌, ◌/◌, ◌%◌, ◌≤◌, ◌<◌}
use native.Mathlib.Omega.{arith}
use mathlib.Core.Path.{◌≡◌, refl, ap, sym, ◌∙◌}
use mathlib.Core.List.{List, ◌∷◌}
use mathlib.Core.Bool.{Bool, true, false, ◌&&◌, false≢true}
use mathlib.Core.Option.{Option, none, some}
use borrow.Author.Tests.{ltb-true, ltb-false, le-ltb}
use lib.ListN.{length, take}
use lib.Seq.{length-take-le}
use lib.Dec.{ltb, leb}
use Rattle.std.specs.Prelude.{Option as Answered, Some, None}
use Rattle.definitions.specs.Basic.{bit, receivable}
use Rattle.definitions.specs.Rows.{Row, form, form_of, rows_of, row_at, place_of}
use Rattle.definitions.specs.Length.{header, whole}
use Rattle.definitions.specs.Elements.{is_accepted, taken, taken_by, octets_of, stranger, known}
use Rattle.definitions.proofs.Steps.{strange, placed, Frames, whole-frames}
use Rattle.definitions.proofs.BitLaws.{no-bit}
use Rattle.definitions.proofs.TableLaws.{row_count}
use Rattle.order.specs.declared.Placed.{Placed}
use Rattle.rows.specs.Numbers.{numbers_at}
use Rattle.elements.specs.declared.element.Element.{Element as Found}
use Rattle.by_index.specs.ByIndex.{row_by, rows_from, rows_by}
use Rattle.by_index.proofs.Rows.{row_at_lem}
use Rattle.plain_reading.specs.Entered.{before, row_by as entered_by, row_entered}
use Rattle.plain_reading.proofs.Accepted.{place_inside, judged-accepted}
use Rattle.filling.specs.Fills.{RowFits, RowFitsBy, head_said, SaidFits, SaidFitsBy, said_by, said_entered}
use Rattle.filling.proofs.Filling.{Places}

-- ---- a place is below 128

rows_long : (table index : List ℕ) (j n : ℕ) → length (rows_from table index j n) ≡ n
unfolding rows_from
rows_long table index j zero = refl
rows_long table index j (suc n) = ap suc (rows_long table index (suc j) n)

pub below-most : (table index : List ℕ) (x k : ℕ) → place_of (rows_by table index) x ≡ some k → k < 128
unfolding rows_by
below-most table index x k e = omega (arith, place_inside (rows_from table index 0 128) x k e, rows_long table index 0 128)

-- ---- a row of zeros takes no element

and-false : (b : Bool) → (b && false) ≡ false
and-false true = refl
and-false false = refl

zeros-take : (r : Row) (x : ℕ) (xs : List ℕ) → r.code ≡ 0 → r.kinds ≡ 0 → (o : Option ℕ) → Frames (form r) (x ∷ xs) o → taken r o (x ∷ xs) ≡ false
unfolding taken taken_by form form_of header receivable
zeros-take r x xs c k none f = refl
zeros-take r x xs c k (some zero) f = absurd (omega (arith, f.2))
zeros-take r x xs c k (some (suc m)) f = rw (c, k, no-bit (x % 16)) (and-false (leb r.least (length (x ∷ take m xs))))

module _ (table index : List ℕ) where
  past-code : (k : ℕ) → length table / 10 ≤ k → (row_by table index k).code ≡ 0
  unfolding row_by numbers_at
  past-code k h = rw (le-ltb k (length table / 10) h)

  past-kinds : (k : ℕ) → length table / 10 ≤ k → (row_by table index k).kinds ≡ 0
  unfolding row_by numbers_at
  past-kinds k h = rw (le-ltb k (length table / 10) h)

  pub takes-inside : (k x : ℕ) (xs : List ℕ) → taken (row_by table index k) (whole (form (row_by table index k)) (x ∷ xs)) (x ∷ xs) ≡ true → k < length table / 10
  takes-inside k x xs e = by (ltb k (length table / 10)) refl
    where
      by : (b : Bool) → ltb k (length table / 10) ≡ b → k < length table / 10
      by true q = ltb-true k (length table / 10) q
      by false q =
          let h : length table / 10 ≤ k = ltb-false k (length table / 10) q in
          absurd (false≢true (sym (zeros-take (row_by table index k) x xs (past-code k h) (past-kinds k h) (whole (form (row_by table index k)) (x ∷ xs)) (whole-frames (form (row_by table index k)) (x ∷ xs))) ∙ e))

  pub places-by : (start : ℕ) (option : Bool) → Places (rows_by table index) (4 * length (rows_of table)) start option
  unfolding stranger known is_accepted octets_of taken
  places-by start option m m' at s e (strange p r) a = absurd (false≢true a)
  places-by start option m m' at s e (placed {x = x} {xs = xs} k p) a =
      record {
        place = k;
        has = refl;
        inside = omega (arith, takes-inside k x xs (rw (row_at_lem table index k b) at j.1), row_count table);
        below = b;
        headed = by (whole (form (row_at (rows_by table index) k)) (x ∷ xs)) (whole-frames (form (row_at (rows_by table index) k)) (x ∷ xs)) j.1;
      }
    where
      b : k < 128
      b = below-most table index _ k p

      j : (bit k m.places ≡ false) × (taken (row_at (rows_by table index) k) (whole (form (row_at (rows_by table index) k)) (x ∷ xs)) (x ∷ xs) ≡ true)
      j = judged-accepted option _ _ _ a

      by : (o : Option ℕ) → Frames (form (row_at (rows_by table index) k)) (x ∷ xs) o → taken (row_at (rows_by table index) k) o (x ∷ xs) ≡ true
          → header (form (row_at (rows_by table index) k)) ≤ length (octets_of o (x ∷ xs))
      by none f b = absurd (false≢true b)
      by (some n) f b = rw (length-take-le n (x ∷ xs) f.1) f.3

  -- ---- by a row's numbers

  pub head-said : (k : ℕ) → k < 128 → before (rows_by table index) k ≡ head_said table k
  unfolding form row_by
  head-said k h = ap (λ (r : Row). header (form r)) (row_at_lem table index k h)

  said_fits : (place : Answered ℕ) (start len : ℕ) (rows : List ℕ) (p : Placed) → RowFitsBy (rows_by table index) place start len rows p → SaidFitsBy table place start len rows p
  said_fits place start len rows Placed.Unknown f = tt
  said_fits place start len rows (Placed.Ignored r) f = tt
  said_fits None start len rows (Placed.Known i) f = f
  said_fits (Some k) start len rows (Placed.Known i) f = (f.0, rw (head-said k f.3) at f.1, f.2)

  said_same : (place : Answered ℕ) (start len : ℕ) (rows : List ℕ) (p : Placed) → RowFitsBy (rows_by table index) place start len rows p
      → said_by table place start len rows p ≡ entered_by (rows_by table index) place start len rows p
  said_same place start len rows Placed.Unknown f = refl
  said_same place start len rows (Placed.Ignored r) f = refl
  said_same None start len rows (Placed.Known i) f = refl
  said_same (Some k) start len rows (Placed.Known i) f = rw (head-said k f.3)

  pub row-said : (e : Found) (rows : List ℕ) → RowFits (rows_by table index) e rows → SaidFits table e rows
  row-said e rows f = said_fits e.place e.start e.len rows e.placed f

  pub entered-said : (e : Found) (rows : List ℕ) → RowFits (rows_by table index) e rows → said_entered table e rows ≡ row_entered (rows_by table index) e rows
  unfolding said_entered row_entered
  entered-said e rows f = said_same e.place e.start e.len rows e.placed f
