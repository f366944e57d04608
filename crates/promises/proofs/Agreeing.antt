-- Whether rows agree with the order log, place by place; and that the rows that reading leaves agree with the log that it leaves.
-- Reading enters each place's IEI by that log, so it is equal to itself: by induction on the elements.
use Prim.Native.Nat.{ℕ, ◌<◌}
use mathlib.Core.Path.{◌≡◌, refl}
use mathlib.Core.List.{List, [], ◌∷◌}
use mathlib.Core.Bool.{Bool, true, false, ◌&&◌, not}
use lib.ListN.{length}
use lib.Dec.{eqb}
use borrow.Author.Tests.{eq-eqb}
use Rattle.definitions.specs.Basic.{pick, over}
use Rattle.definitions.specs.Rows.{Row}
use Rattle.definitions.specs.Elements.{Element, is_accepted, is_at}
use Rattle.definitions.specs.Logs.{Placed, order_of, order_list, or_empty, iei_for}
use Rattle.definitions.specs.Reading.{received, place_row, place_rows}
use Rattle.definitions.specs.Values.{present, unlike, apart_at, apart}
use Rattle.definitions.proofs.Checks.{none_of, of_none}
use Rattle.promises.proofs.Rows.{as_value, row-value}

module _ (t : List Row) (ps : List Placed) (rows : List ℕ) where
  pub agree : ((k : ℕ) → k < length t → apart_at t ps rows k ≡ false) → apart t ps rows ≡ false
  unfolding apart
  agree h = none_of (apart_at t ps rows) (length t) h

  pub agreed : apart t ps rows ≡ false → (k : ℕ) → k < length t → apart_at t ps rows k ≡ false
  unfolding apart
  agreed h k l = of_none (apart_at t ps rows) (length t) h k l

-- ---- reading

row-agrees : (t : List Row) (ps : List Placed) (es : List Element) (k : ℕ)
    → (present (as_value (place_row t ps es k)) && not (eqb (as_value (place_row t ps es k)).iei (iei_for t ps k))) ≡ false
unfolding present place_row received
row-agrees t ps [] k = refl
row-agrees t ps (e ∷ es) k = by (is_accepted e.verdict && is_at k e) (row-agrees t ps es k)
  where
    by : (b : Bool) → (present (as_value (place_row t ps es k)) && not (eqb (as_value (place_row t ps es k)).iei (iei_for t ps k))) ≡ false
        → (present (as_value (pick b (received t (iei_for t ps k) k e) (place_row t ps es k))) && not (eqb (as_value (pick b (received t (iei_for t ps k) k e) (place_row t ps es k))).iei (iei_for t ps k))) ≡ false
    by true r = rw (eq-eqb (iei_for t ps k) (iei_for t ps k) refl)
    by false r = r

pub read-agrees : (t : List Row) (es : List Element) (l : List ℕ) → apart t (or_empty (order_list (order_of t es))) (over (place_rows t es) l) ≡ false
unfolding apart_at unlike
read-agrees t es l =
    agree t (or_empty (order_list (order_of t es))) (over (place_rows t es) l)
    (λ k h. rw (row-value t es l k h) (row-agrees t (or_empty (order_list (order_of t es))) es k))
