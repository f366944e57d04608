-- Writing gives back what was read.
use Rattle.std.specs.Prelude.{ℕ, ◌<◌, ◌≤◌, ◌≡◌, List, [], ◌∷◌, Bool, length, get_or}
use Rattle.definitions.specs.Basic.{answer, over}
use Rattle.definitions.specs.Reading.{Lent, Read, reading}
use Rattle.definitions.specs.Writing.{Wrote, writing}

-- every number of a list is an octet, as it is of every list of octets that is lent
abbrev pub AreOctets : List ℕ → Type 0
AreOctets s = (i : ℕ) → get_or s i 0 < 256

-- writing the untouched result of a reading: its rows and both logs as it left them, each log with the count that it answered,
-- the part as received octets, and no set octets, whatever the room for them holds
unfoldable pub written_back : List ℕ → List ℕ → Read → List ℕ → List ℕ → Wrote
written_back table part r set output =
    writing table r.rows part (record { buffer = set; used = 0 }) (record { buffer = r.order; used = get_or r.said.values 1 0 })
    (record { buffer = r.kept; used = get_or r.said.values 0 0 }) output

-- done, with the part's length; the output begins with exactly the part and is unchanged behind it
unfoldable pub gives : List ℕ → List ℕ → Wrote
gives part output = record { said = answer 0 (length part ∷ []); output = over part output }

-- for every table, start number, option, part and lent memory with which reading is done, and enough output
abbrev pub RoundTrip : Type 0
RoundTrip =
    (table : List ℕ) (start : ℕ) (option : Bool) (part : List ℕ) (l : Lent) (set output : List ℕ) → AreOctets part → (reading table start option part l).said.number ≡ 0
    → length part ≤ length output → written_back table part (reading table start option part l) set output ≡ gives part output
