-- An element in its turn by a table and any index: the laws of Lining, of the rows that the two say.
-- The index says its place, and the numbers of its row the rest; a row that takes an element is one of the table's.
use Prim.Native.Nat.{ℕ, suc, ◌+◌, ◌*◌, ◌≤◌, ◌<◌}
use native.Mathlib.Omega.{arith}
use mathlib.Core.Path.{◌≡◌, refl, ap, subst, sym, ◌∙◌}
use mathlib.Core.List.{List}
use mathlib.Core.Bool.{Bool, true, false}
use mathlib.Core.Option.{Option, none}
use lib.ListN.{length, get_or, drop}
use Rattle.std.specs.Prelude.{Some, None}
use lib.Seq.{drop-cons}
use Rattle.definitions.specs.Rows.{Row, rows_of, row_at, form, iei_of}
use Rattle.definitions.specs.Length.{whole}
use Rattle.definitions.specs.Elements.{taken, parted}
use Rattle.definitions.proofs.TableLaws.{row_count}
use Rattle.rows.specs.Numbers.{numbers_at, row_said}
use Rattle.elements.specs.Steps.{fit_of, place_at}
use Rattle.elements.specs.declared.element.Fit.{Fit}
use Rattle.elements.specs.declared.element.State.{State}
use Rattle.by_index.specs.ByIndex.{row_by, rows_by}
use Rattle.by_index.proofs.Rows.{row_at_lem}
use Rattle.elements.proofs.Came.{fit_same, came-by, place-some}
use Rattle.plain_reading.specs.Plains.{plain_rows}
use Rattle.plain_reading.proofs.Lining.{Lining, Enters, s as at-state, Here, known_here, none-strange, none_below, none_other, none-taken, enters}
use Rattle.filling.proofs.ByIndex.{takes-inside}
use Rattle.plain_by_table.proofs.First.{own_first, other-first}

-- an element fits by the numbers of a place as by the row
fit_at : (table index : List ℕ) (k : ℕ) → k < 128 → (s : List ℕ) → fit_of (row_said (numbers_at table k)) s ≡ fit_of (row_at (rows_by table index) k) s
fit_at table index k h s = fit_same table index k s ∙ ap (λ (r : Row). fit_of r s) (sym (row_at_lem table index k h))

module _ (table index : List ℕ) (start : ℕ) (option : Bool) (part rows₀ : List ℕ) where
  abbrev u : List Row
  u = rows_by table index

  abbrev all : Option (List ℕ)
  all = plain_rows u 0 (parted u start option part) rows₀

  module _ {at least : ℕ} {rows : List ℕ} (l : Lining u start option part rows₀ at least rows) (inside : at < length part) (iei : ℕ) (iei-is : iei ≡ iei_of (get_or part at 0)) (octet : iei < 256) where
    abbrev left : List ℕ
    left = drop at part

    abbrev here : State
    here = at-state u start option part rows₀ l iei

    pub none-placeless : None ≡ place_at (get_or index iei 0) → none ≡ all
    none-placeless h = none-strange u start option part rows₀ l iei (came-by table index start option part here l.line.low inside (get_or part at 0) iei refl iei-is octet None h)

    module _ (k : ℕ) (k-at : Some k ≡ place_at (get_or index iei 0)) where
      abbrev fit : Fit
      fit = fit_of (row_said (numbers_at table k)) left

      k-is : k ≡ get_or index iei 0
      k-is = (place-some (get_or index iei 0) k-at).0

      pub low : k < 128
      low = (place-some (get_or index iei 0) k-at).1

      known-here : Here u start option part rows₀ l iei (Some k) (known_here u start option part rows₀ l iei k (row_at u k))
      known-here =
          let z : Here u start option part rows₀ l iei (Some k) (known_here u start option part rows₀ l iei k (row_said (numbers_at table k))) =
          came-by table index start option part here l.line.low inside (get_or part at 0) iei refl iei-is octet (Some k) k-at in
          rw (fit_at table index k low left) at z

      pub none-lower : k < least → none ≡ all
      none-lower h = none_below u start option part rows₀ l iei k known-here h

      pub none-second : (iei ≡ (numbers_at table k).first → ⊥) → none ≡ all
      none-second n = none_other u start option part rows₀ l iei k known-here (other-first table index k low iei octet k-is n)

      module _ (h : least ≤ k) where
        pub none-untaken : fit.taken ≡ false → none ≡ all
        none-untaken q = none-taken u start option part rows₀ l iei k known-here h (ap (λ (f : Fit). f.taken) (sym (fit_at table index k low left)) ∙ q)

        pub enters-by : iei ≡ (numbers_at table k).first → fit.taken ≡ true → Enters u start option part rows₀ at k rows fit.len
        enters-by f q =
            rw (fit_at table index k low left)
            (enters u start option part rows₀ l iei k known-here h (own_first table index k low iei octet k-is f) (ap (λ (f : Fit). f.taken) (sym (fit_at table index k low left)) ∙ q))

      -- a row of the table took it
      pub row-there : fit.taken ≡ true → 4 * k + 4 ≤ 4 * length (rows_of table)
      unfolding fit_of
      row-there q =
          let r : taken (row_by table index k) (whole (form (row_by table index k)) left) left ≡ true = ap (λ (f : Fit). f.taken) (sym (fit_same table index k left)) ∙ q in
          omega (arith, takes-inside table index k (get_or part at 0) (drop (suc at) part) (subst (λ (s : List ℕ). taken (row_by table index k) (whole (form (row_by table index k)) s) s ≡ true) (drop-cons part at 0 inside) r), row_count table)
