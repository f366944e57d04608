-- The answer for a part by a table and any index: false where a limit does not hold, and else as the pass says, which finds the rows among
-- zeros. What is copied out are the elements entered among the cleared rows.
use Prim.Native.Nat.{ℕ, ◌*◌, ◌≤◌}
use mathlib.Core.Path.{◌≡◌, refl, ap, ◌∙◌}
use mathlib.Core.List.{List}
use mathlib.Core.Bool.{Bool, true, false}
use mathlib.Core.Option.{none, some}
use lib.ListN.{length, take, replicate}
use Rattle.definitions.specs.Basic.{over}
use Rattle.definitions.specs.Rows.{Row, rows_of}
use Rattle.definitions.specs.Elements.{Parted, elements_of, parted}
use Rattle.by_index.specs.ByIndex.{rows_by}
use Rattle.plain_reading.specs.Plains.{plain_rows}
use Rattle.plain_reading.proofs.Copied.{Told, told, untold}
use Rattle.filling.proofs.ByIndex.{places-by}
use Rattle.filling.proofs.Front.{rows-copied}
use Rattle.plain_by_table.specs.PlainBy.{holds, PlainBy}
use Rattle.plain_by_table.proofs.Held.{Held, holding}

module _ (table index part rows : List ℕ) (start : ℕ) (option : Bool) where
  abbrev u : List Row
  u = rows_by table index

  abbrev p : Parted
  p = parted u start option part

  pub unheld : holds table part (length rows) ≡ false → PlainBy table index start option part rows false rows
  unheld h = record { is = rw h refl; rows_are = refl }

  module _ (h : Held table part (length rows)) (w : ℕ) where
    pub not_plain : none ≡ plain_rows u 0 p (replicate w 0) → PlainBy table index start option part rows false rows
    not_plain e = record { is = rw (holding table part (length rows) h) (untold u p (replicate w 0) e); rows_are = refl }

    pub all_plain : 4 * length (rows_of table) ≤ w → (n : ℕ) → n ≡ 4 * length (rows_of table) → (found : List ℕ) → some found ≡ plain_rows u 0 p (replicate w 0) → {rows' : List ℕ} → rows' ≡ over (take n found) rows
        → PlainBy table index start option part rows true rows'
    all_plain fits n n-is found e q =
        let d : Told u p (replicate w 0) found = told u p (replicate w 0) found e in
        record {
          is = rw (holding table part (length rows) h) d.is;
          rows_are =
              rows-copied u start option part w (4 * length (rows_of table)) fits (places-by table index start option) (elements_of p) d.decodes rows d.found-is
              (q ∙ ap (λ (m : ℕ). over (take m found) rows) n-is);
        }
