-- Reading by its checks: what it is at the first that refuses, and where none does.
-- Each law settles the checks before it, in document 01's order.
use Prim.Native.Nat.{ℕ, ◌*◌, ◌≤◌, ◌<◌}
use mathlib.Core.Path.{◌≡◌}
use mathlib.Core.List.{List, [], ◌∷◌}
use mathlib.Core.Bool.{Bool}
use mathlib.Core.Option.{none, some}
use borrow.Author.Tests.{lt-ltb, le-ltb}
use lib.ListN.{length}
use Rattle.definitions.specs.Basic.{answer, refusal, most_octets}
use Rattle.definitions.specs.Rows.{Row, rows_of, first_bad}
use Rattle.definitions.specs.Elements.{Element, Parted, elements, cut_short, elements_of, parted}
use Rattle.definitions.specs.Logs.{kept_of, order_of}
use Rattle.definitions.specs.Values.{place_width}
use Rattle.definitions.specs.Reading.{Lent, unread, cut_of, reading_checks, read_elements, reading}

module _ (table : List ℕ) (start : ℕ) (option : Bool) (part : List ℕ) (l : Lent) where
  abbrev t : List Row
  t = rows_of table

  abbrev p : Parted
  p = parted t start option part

  pub read-bad : {k : ℕ} → first_bad t ≡ some k → reading table start option part l ≡ unread l (answer 4 (k ∷ []))
  unfolding reading reading_checks refusal
  read-bad e = rw e

  module _ (passes : first_bad t ≡ none) where
    pub read-long : most_octets < length part → reading table start option part l ≡ unread l (answer 3 [])
    unfolding reading reading_checks refusal
    read-long h = rw (passes, lt-ltb most_octets (length part) h)

    module _ (short : length part ≤ most_octets) where
      pub read-rows : length l.rows < place_width * length t → reading table start option part l ≡ unread l (answer 2 (1 ∷ []))
      unfolding reading reading_checks refusal
      read-rows h = rw (passes, le-ltb most_octets (length part) short, lt-ltb (length l.rows) (place_width * length t) h)

      module _ (rows : place_width * length t ≤ length l.rows) where
        pub read-cut : {a x n k : ℕ} → p ≡ cut_short a x n k → reading table start option part l ≡ unread l (answer 1 (a ∷ x ∷ n ∷ k ∷ []))
        unfolding reading reading_checks refusal cut_of
        read-cut e = rw (passes, le-ltb most_octets (length part) short, le-ltb (length l.rows) (place_width * length t) rows, e)

        module _ (es : List Element) (e : p ≡ elements es) where
          pub read_kept : length l.kept < length (kept_of es) → reading table start option part l ≡ unread l (answer 2 (2 ∷ []))
          unfolding reading reading_checks refusal cut_of elements_of
          read_kept h =
              rw (passes, le-ltb most_octets (length part) short, le-ltb (length l.rows) (place_width * length t) rows, e, lt-ltb (length l.kept) (length (kept_of es)) h)

          module _ (kept : length (kept_of es) ≤ length l.kept) where
            pub read-order : length l.order < length (order_of t es) → reading table start option part l ≡ unread l (answer 2 (3 ∷ []))
            unfolding reading reading_checks refusal cut_of elements_of
            read-order h =
                rw (passes, le-ltb most_octets (length part) short, le-ltb (length l.rows) (place_width * length t) rows, e, le-ltb (length l.kept) (length (kept_of es)) kept, lt-ltb (length l.order) (length (order_of t es)) h)

            pub read_done : length (order_of t es) ≤ length l.order → reading table start option part l ≡ read_elements t l es
            unfolding reading reading_checks refusal cut_of elements_of
            read_done h =
                rw (passes, le-ltb most_octets (length part) short, le-ltb (length l.rows) (place_width * length t) rows, e, le-ltb (length l.kept) (length (kept_of es)) kept, le-ltb (length l.order) (length (order_of t es)) h)
