-- The elements of places put into a buffer: what each is written as where its row is well formed, agrees with its IEI and fits; else none.
-- By the numbers of a table as they are lent: of a table that passes its check they are those of its rows.
use Rattle.std.specs.Prelude.{ℕ, zero, suc, ◌+◌, ◌≤◌, ◌<◌, min, ◌≡◌, List, [], ◌++◌, ◌&&◌, length, take, leb, Option as Answered, Some, None}
use Rattle.std.proofs.Math.Option.{Option, none, some}
use Rattle.definitions.specs.Basic.{pick, over, over_at}
use Rattle.definitions.specs.Rows.{Form, form_of}
use Rattle.definitions.specs.Values.{Octets, Value, value_at, present, octets_at, good_value, unlike}
use Rattle.definitions.specs.Logs.{or_empty}
use Rattle.definitions.specs.Writing.{encoded}
use Rattle.rows.specs.Numbers.{numbers_at}
use Rattle.values.specs.Rows.{sources_of}
use Rattle.putting.specs.Puts.{writable}

-- what is lent of the places: the numbers of a table, place rows, and the octets of their values
pub record Lent : Type 0 where
  pub table : List ℕ
  pub rows : List ℕ
  pub octets : Octets

abbrev pub lent_of : List ℕ → List ℕ → List ℕ → List ℕ → Lent
lent_of table rows received set = record { table = table; rows = rows; octets = sources_of received set }

-- one piece behind another, where both are there
unfoldable pub joined : Option (List ℕ) → Option (List ℕ) → Option (List ℕ)
joined none y = none
joined (some a) none = none
joined (some a) (some b) = some (a ++ b)

-- ---- the places

-- the element of a value under an IEI; nothing of an absent one; none where its row is malformed or disagrees, or it cannot be written
unfoldable pub judged : Form → Octets → Value → ℕ → Option (List ℕ)
judged f o v iei =
    pick (good_value o v)
    (pick (present v)
    (pick (unlike v iei) none (pick (leb iei 255 && writable f v.source iei (octets_at o v)) (some (encoded f iei (octets_at o v))) none))
    (some []))
    none

-- of a place
unfoldable pub piece_by : Lent → ℕ → ℕ → Option (List ℕ)
piece_by m k iei = judged (form_of (numbers_at m.table k).code (numbers_at m.table k).size) m.octets (value_at m.rows k) iei

-- of the n places from k on, each under its first IEI
unfoldable pub ranged : Lent → ℕ → ℕ → Option (List ℕ)
ranged m k zero = some []
ranged m k (suc n) = joined (piece_by m k (numbers_at m.table k).first) (ranged m (suc k) n)

-- ---- what is put into a buffer

-- the position behind a piece that is put from a position on, where there is one and the room is enough
unfoldable pub held_to : ℕ → ℕ → Option (List ℕ) → Answered ℕ
held_to room at none = None
held_to room at (some s) = pick (leb (at + length s) room) (Some (at + length s)) None

-- a piece put from a position on, all of it, or not; of a buffer into which it was not put nothing is said here
pub record PutBy (piece : Option (List ℕ)) (at : ℕ) (before : List ℕ) (r : Answered ℕ) (after : List ℕ) : Type 0 where
  pub answers : r ≡ held_to (length before) at piece
  pub octets : (n : ℕ) → r ≡ Some n → after ≡ over_at at (or_empty piece) before

-- what a buffer then has: the n places from k on put from a position on, up to the first that is none or has no room
unfoldable pub put_then : Option (List ℕ) → ℕ → List ℕ → (ℕ → List ℕ → List ℕ) → List ℕ
put_then none at d rest = d
put_then (some s) at d rest = pick (leb (at + length s) (length d)) (rest (at + length s) (over_at at s d)) d

unfoldable pub put_all : Lent → ℕ → ℕ → ℕ → List ℕ → List ℕ
put_all m k zero at d = d
put_all m k (suc n) at d = put_then (piece_by m k (numbers_at m.table k).first) at d (put_all m (suc k) n)

-- what is left of a piece: whatever becomes of it from there, becomes of the whole
abbrev pub Leads : Option (List ℕ) → ℕ → List ℕ → Option (List ℕ) → ℕ → List ℕ → Type 0
Leads piece at before piece' at' mid = (r : Answered ℕ) (after : List ℕ) → PutBy piece' at' mid r after → PutBy piece at before r after

-- ---- the output

-- the first octets of what was found, copied; or the output as it was
pub record Copied (p : Answered ℕ) (n : ℕ) (found before after : List ℕ) : Type 0 where
  pub found_at : p ≡ Some n
  pub there : n ≤ length found
  pub room : n ≤ length before
  pub is : after ≡ over (take n found) before

abbrev pub CopiedBy : Answered ℕ → List ℕ → List ℕ → Answered ℕ → List ℕ → Type 0
CopiedBy p found before (Some n) after = Copied p n found before after
CopiedBy p found before None after = (after ≡ before) × ((n : ℕ) → p ≡ Some n → min (length found) (length before) < n)

-- a piece in the front of the output, where an array of so many octets holds it and the output does; else the output as it was
pub record WroteBy (room : ℕ) (piece : Option (List ℕ)) (before : List ℕ) (r : Answered ℕ) (after : List ℕ) : Type 0 where
  pub answers : r ≡ held_to (min room (length before)) 0 piece
  pub done : (n : ℕ) → r ≡ Some n → after ≡ over (or_empty piece) before
  pub not_done : r ≡ None → after ≡ before

-- the array, by the places of the table and the octets of the kept log
unfoldable pub capacity : ℕ → ℕ → ℕ
capacity places kept = pick (leb places 16 && leb kept 64) 128 512
