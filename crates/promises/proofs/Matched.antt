-- A part of which it is known that it decodes, and whose elements match. With room for twice its length reading is done; the rest is
-- the round trip.
use Prim.Native.Nat.{ℕ, ◌≤◌}
use mathlib.Core.Path.{◌≡◌}
use mathlib.Core.List.{List}
use mathlib.Core.Bool.{Bool}
use lib.ListN.{length}
use Rattle.definitions.specs.Rows.{rows_of}
use Rattle.definitions.specs.Elements.{Element, elements, parted}
use Rattle.definitions.specs.Reading.{Lent, reading, read_elements}
use Rattle.promises.specs.Room.{Readable, Enough}
use Rattle.promises.specs.RoundTrip.{AreOctets}
use Rattle.promises.specs.Matched.{Matched}
use Rattle.promises.proofs.Room.{enough}
use Rattle.promises.proofs.RoundTrip.{round_trip}

pub matched : (table : List ℕ) (start : ℕ) (option : Bool) (b : List ℕ) (l : Lent) (set output : List ℕ) → Readable table b → Enough table b l → AreOctets b → length b ≤ length output
    → {Match : List Element → Type 0} {es : List Element} → parted (rows_of table) start option b ≡ elements es → Match es → Matched table start option b l set output Match
unfolding read_elements
matched table start option b l set output h k o n {es = es} q m =
    let d : (reading table start option b l).said.number ≡ 0 = rw (enough table start option b l es h k q) in
    record { elements' = es; decodes = q; done = d; each = m; written = round_trip table start option b l set output o d n }
