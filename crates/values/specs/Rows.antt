-- The numbers of a place's row, where its value comes from, and where the octets of the value stand.
use Rattle.std.specs.Prelude.{ℕ, ◌≤◌, ◌<◌, ◌≡◌, List, Bool, length}
use Rattle.std.specs.Borrow.{Bor}
use Rattle.definitions.specs.Basic.{pick}
use Rattle.definitions.specs.Values.{Octets, Value, place_width, mandatory_width}
use Rattle.octets.specs.Places.{StandsAt}
use Rattle.values.specs.declared.row.ValueRow.{ValueRow}

abbrev pub value_of : ValueRow → Value
value_of r = record { source = r.source; start = r.start; size = r.len; iei = r.iei }

-- how many numbers a row has, by whether it has an IEI
abbrev pub width_of : Bool → ℕ
width_of b = pick b place_width mandatory_width

abbrev pub sources_of : List ℕ → List ℕ → Octets
sources_of received set = record { received = received; set = set }

-- the octets of a value stand at its start in those that its row names, as `source_of` reads it; a start past their end has no octet
abbrev pub PlacedAs : Bor (List ℕ) → Bor (List ℕ) → Value → Bor (List ℕ) → Type 0
PlacedAs received set v part =
    (v.source ≡ 1 → v.start ≤ length received.now → StandsAt v.start received part)
    × (1 < v.source → v.start ≤ length set.now → StandsAt v.start set part)
