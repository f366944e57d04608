-- Writing mandatory rows gives back what was read of them.
use Rattle.std.specs.Prelude.{ℕ, ◌≤◌, ◌≡◌, List, [], ◌∷◌, Bool, length, get_or, take}
use Rattle.definitions.specs.Basic.{answer, over}
use Rattle.definitions.specs.Mandatory.{RowsRead, mandatory_reading, RowsWrote, mandatory_writing}
use Rattle.promises.specs.RoundTrip.{AreOctets}

-- the octets that a reading answers it has read
unfoldable pub read_of : RowsRead → ℕ
read_of r = get_or r.said.values 0 0

-- writing the untouched result of a reading: its rows as it left them, the part as received octets, and no set octets, whatever
-- the room for them holds
unfoldable pub rows_back : List ℕ → List ℕ → RowsRead → List ℕ → List ℕ → RowsWrote
rows_back table part r set output = mandatory_writing table r.rows part (record { buffer = set; used = 0 }) output

-- done, with the octets that were read; the output begins with exactly these octets and is unchanged behind them
unfoldable pub gives_front : List ℕ → RowsRead → List ℕ → RowsWrote
gives_front part r output = record { said = answer 0 (read_of r ∷ []); output = over (take (read_of r) part) output }

-- for every table, part and lent rows with which strict or lenient reading is done. The numbers of the part are octets: a value
-- behind a length octet of 256 would not fit its form. The output has room for what was read: else writing refuses with 12. What
-- the part has behind the rows is not theirs, so only what was read comes back
abbrev pub MandatoryRoundTrip : Type 0
MandatoryRoundTrip =
    (table : List ℕ) (lenient : Bool) (part rows set output : List ℕ) → AreOctets part → (mandatory_reading table lenient part rows).said.number ≡ 0
    → read_of (mandatory_reading table lenient part rows) ≤ length output
    → rows_back table part (mandatory_reading table lenient part rows) set output ≡ gives_front part (mandatory_reading table lenient part rows) output
