-- By the table's own index the rows that a table and an index say are entered as the table's are: a place has a row of the same form.
-- By induction on the elements that stand in the part.
use Prim.Native.Nat.{ℕ, ◌*◌, ◌<◌}
use mathlib.Core.Path.{◌≡◌, refl, ap, ◌∙◌}
use mathlib.Core.List.{List, ◌∷◌}
use mathlib.Core.Bool.{Bool}
use lib.ListN.{length, get_or, replicate}
use Rattle.std.specs.Prelude.{Some}
use Rattle.definitions.specs.Basic.{over}
use Rattle.definitions.specs.Rows.{Row, rows_of}
use Rattle.definitions.specs.Elements.{Verdict, accepted, unknown, malformed, repeated, out_of_sequence, Element, iei_at, Met, stranger, known, elements, parted}
use Rattle.definitions.specs.Reading.{place_rows}
use Rattle.definitions.proofs.Steps.{Stands, strange, placed, Reads, end, more, reads}
use Rattle.elements.specs.Steps.{element_of, placed_for}
use Rattle.rows.specs.Indexed.{Indexed}
use Rattle.by_index.specs.ByIndex.{rows_by}
use Rattle.by_index.proofs.Own.{form-same, parted-same}
use Rattle.plain_reading.specs.Entered.{row_by, row_entered, entered_all}
use Rattle.plain_reading.proofs.Entered.{all-entered}
use Rattle.filling.proofs.ByIndex.{below-most}

module _ (table index : List ℕ) (i : Indexed table index) where
  abbrev t : List Row
  t = rows_of table

  abbrev u : List Row
  u = rows_by table index

  row_same : {start : ℕ} {option : Bool} {m m' : Met} {at : ℕ} {s : List ℕ} {e : Element} → Stands u start option m at s e m' → (rows : List ℕ) → row_entered u (element_of e) rows ≡ row_entered t (element_of e) rows
  unfolding row_entered element_of stranger known
  row_same (strange p r) rows = refl
  row_same {option = option} {m = m} {at = at} (placed {x = x} {xs = xs} k p) rows = by (known u option m at (x ∷ xs) k) (known u option m at (x ∷ xs) k).verdict
    where
      by : (e : Element) (v : Verdict) → row_by u (Some k) e.at (length e.octets) rows (placed_for (iei_at e) v) ≡ row_by t (Some k) e.at (length e.octets) rows (placed_for (iei_at e) v)
      by e accepted = rw (form-same table index i k (below-most table index _ k p))
      by e unknown = refl
      by e malformed = refl
      by e repeated = refl
      by e out_of_sequence = refl

  all_same : {start : ℕ} {option : Bool} {m : Met} {at : ℕ} {s : List ℕ} {es : List Element} → Reads u start option m at s es → (rows : List ℕ) → entered_all u es rows ≡ entered_all t es rows
  unfolding entered_all
  all_same end rows = refl
  all_same (more {e = e} {es = es} d r) rows = ap (entered_all u es) (row_same d rows) ∙ all_same r (row_entered t (element_of e) rows)

  -- the rows of a part, among cleared numbers
  pub rows_same : (start : ℕ) (option : Bool) (part : List ℕ) → ((j : ℕ) → get_or part j 0 < 256) → (rows : List ℕ) (es : List Element) → parted t start option part ≡ elements es
      → entered_all u es (over (replicate (4 * length t) 0) rows) ≡ over (place_rows t es) rows
  rows_same start option part octets rows es e =
      all_same (reads u start option (parted-same table index i start option part octets ∙ e)) (over (replicate (4 * length t) 0) rows) ∙ all-entered t start option part es e rows
