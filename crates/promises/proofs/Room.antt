-- Room. An element has an octet or more, and its count takes no more octets than it has, its order entry at most two: so each
-- log takes at most twice the part. With that much lent every check of reading passes but 1.
use Prim.Native.Nat.{ℕ, ◌+◌, ◌*◌, ◌≤◌}
use native.Mathlib.Omega.{arith}
use mathlib.Core.Path.{◌≡◌, refl}
use mathlib.Core.List.{List, [], ◌∷◌, ◌++◌}
use mathlib.Core.Bool.{Bool, true, false}
use lib.ListN.{length, length-append}
use borrow.Author.Tests.{le-ltb}
use Rattle.definitions.specs.Basic.{pick, refusal}
use Rattle.definitions.specs.Rows.{Row, rows_of}
use Rattle.definitions.specs.Elements.{Element, Parted, elements, cut_short, parted, elements_of, is_accepted}
use Rattle.definitions.specs.Logs.{kept_entry, kept_of, placed_of, entries_of, plain_from, order_of}
use Rattle.definitions.specs.Reading.{Lent, reading, reading_checks, read_elements, cut_of}
use Rattle.definitions.proofs.LogLaws.{leb-room, order-room}
use Rattle.promises.specs.Joined.{joined, Follow}
use Rattle.promises.specs.Room.{LogsRoom, Readable, Enough, ReadingDone}
use Rattle.promises.proofs.Join.{elements-join}

kept-room : (at : ℕ) (es : List Element) → Follow at es → length (kept_of es) ≤ 2 * length (joined es)
unfolding kept_of joined Follow kept_entry
kept-room at [] h = omega arith
kept-room at (e ∷ es) h = go (is_accepted e.verdict) (kept-room (at + length e.octets) es h.2)
  where
    go : (b : Bool) → length (kept_of es) ≤ 2 * length (joined es) → length (pick b (kept_of es) (kept_entry e.octets ++ kept_of es)) ≤ 2 * length (e.octets ++ joined es)
    go true r = simp length-append (omega arith)
    go false r = simp length-append (omega (arith, leb-room (length e.octets) h.1))

entries-room : (at : ℕ) (es : List Element) → Follow at es → length (entries_of es) ≤ 2 * length (joined es)
unfolding entries_of joined Follow
entries-room at [] h = omega arith
entries-room at (e ∷ es) h = simp length-append (omega (arith, h.1, order-room (placed_of e), entries-room (at + length e.octets) es h.2))

both-room : (t : List Row) (es : List Element) → Follow 0 es → (length (kept_of es) ≤ 2 * length (joined es)) × (length (order_of t es) ≤ 2 * length (joined es))
unfolding order_of
both-room t es h = (kept-room 0 es h, go (plain_from t 0 es))
  where
    go : (b : Bool) → length (pick b [] (entries_of es)) ≤ 2 * length (joined es)
    go true = omega arith
    go false = entries-room 0 es h

pub logs-room : LogsRoom
logs-room t start option part es p = let j = elements-join t start option part es p in rw j.0 at (both-room t es j.1)

-- reading is done where the part decodes and what is lent holds the result
pub done : (table : List ℕ) (start : ℕ) (option : Bool) (part : List ℕ) (l : Lent) {es : List Element} → Readable table part
    → parted (rows_of table) start option part ≡ elements es → 4 * length (rows_of table) ≤ length l.rows → length (kept_of es) ≤ length l.kept
    → length (order_of (rows_of table) es) ≤ length l.order → reading table start option part l ≡ read_elements (rows_of table) l es
unfolding reading reading_checks refusal cut_of elements_of
done table start option part l {es} h p r k o =
    rw (p, h.passes, le-ltb _ _ h.short, le-ltb _ _ r, le-ltb _ _ k, le-ltb _ _ o)

-- with room for twice the part it does
pub enough : (table : List ℕ) (start : ℕ) (option : Bool) (part : List ℕ) (l : Lent) (es : List Element) → Readable table part → Enough table part l
    → parted (rows_of table) start option part ≡ elements es → reading table start option part l ≡ read_elements (rows_of table) l es
enough table start option part l es h k p =
    let r = logs-room (rows_of table) start option part es p in
    done table start option part l h p k.rows (omega arith) (omega arith)

cut-said : (table : List ℕ) (start : ℕ) (option : Bool) (part : List ℕ) (l : Lent) → Readable table part → Enough table part l → (a x n m : ℕ)
    → parted (rows_of table) start option part ≡ cut_short a x n m → (reading table start option part l).said.number ≡ 1
unfolding reading reading_checks refusal cut_of
cut-said table start option part l h k a x n m p = rw (p, h.passes, le-ltb _ _ h.short, le-ltb _ _ k.rows)

pub reading-done : ReadingDone
unfolding read_elements
reading-done table start option part l h k n = go (parted (rows_of table) start option part) refl
  where
    go : (p : Parted) → parted (rows_of table) start option part ≡ p → (reading table start option part l).said.number ≡ 0
    go (elements es) p = rw (enough table start option part l es h k p)
    go (cut_short a x m q) p = absurd (n (cut-said table start option part l h k a x m q p))
