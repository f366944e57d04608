-- The limits of a pass: each by itself, and what they say together.
-- By the definition, test by test.
use Prim.Native.Nat.{ℕ, ◌*◌, ◌≤◌, ◌<◌}
use mathlib.Core.Path.{◌≡◌, refl}
use mathlib.Core.List.{List}
use mathlib.Core.Bool.{Bool, true, false, ◌&&◌, false≢true}
use borrow.Author.Tests.{leb-true, le-leb, lt-leb}
use lib.ListN.{length}
use lib.Dec.{leb}
use Rattle.definitions.specs.Rows.{rows_of}
use Rattle.plain_by_table.specs.PlainBy.{holds}

pub record Held (table part : List ℕ) (room : ℕ) : Type 0 where
  pub short : length part ≤ 65535
  pub few : length (rows_of table) ≤ 128
  pub room-is : 4 * length (rows_of table) ≤ room

module _ (table part : List ℕ) (room : ℕ) where
  pub long : 65535 < length part → holds table part room ≡ false
  unfolding holds
  long h = rw (lt-leb (length part) 65535 h)

  module _ (short : length part ≤ 65535) where
    pub many : 128 < length (rows_of table) → holds table part room ≡ false
    unfolding holds
    many h = rw (le-leb (length part) 65535 short, lt-leb (length (rows_of table)) 128 h)

    pub no_room : length (rows_of table) ≤ 128 → room < 4 * length (rows_of table) → holds table part room ≡ false
    unfolding holds
    no_room few h = rw (le-leb (length part) 65535 short, le-leb (length (rows_of table)) 128 few, lt-leb (4 * length (rows_of table)) room h)

  pub holding : Held table part room → holds table part room ≡ true
  unfolding holds
  holding h = rw (le-leb (length part) 65535 h.short, le-leb (length (rows_of table)) 128 h.few, le-leb (4 * length (rows_of table)) room h.room-is)

  pub held : holds table part room ≡ true → Held table part room
  unfolding holds
  held e = by (leb (length part) 65535) (leb (length (rows_of table)) 128) (leb (4 * length (rows_of table)) room) refl refl refl e
    where
      by : (a b c : Bool) → leb (length part) 65535 ≡ a → leb (length (rows_of table)) 128 ≡ b → leb (4 * length (rows_of table)) room ≡ c → (a && (b && c)) ≡ true → Held table part room
      by true true true x y z q = record { short = leb-true (length part) 65535 x; few = leb-true (length (rows_of table)) 128 y; room-is = leb-true (4 * length (rows_of table)) room z }
      by true true false x y z q = absurd (false≢true q)
      by true false c x y z q = absurd (false≢true q)
      by false b c x y z q = absurd (false≢true q)
