-- The rows judged an entry of the order log at a time: the places that it named so far, and whether a row disagrees with the earliest
-- IEI of its place.
use Rattle.std.specs.Prelude.{ℕ, ◌<◌, ◌≡◌, List, Bool, true, false, ◌&&◌, ◌||◌, not, length}
use Rattle.std.proofs.Math.Option.{Option, none, some}
use Rattle.definitions.specs.Basic.{bit}
use Rattle.definitions.specs.Rows.{Row, place_of}
use Rattle.definitions.specs.Elements.{including}
use Rattle.definitions.specs.Logs.{Placed, known_iei, not_known, ignored, iei_for}
use Rattle.definitions.specs.Values.{value_at, unlike, apart_at}

-- whether a place's row disagrees with an IEI, if the set has not the place
unfoldable pub apart_by : List ℕ → ℕ → ℕ → ℕ → Bool
apart_by rows set k iei = not (bit k set) && unlike (value_at rows k) iei

-- with one entry more, by the place of its IEI: the set, and whether a row disagrees
abbrev pub known_set : ℕ → Option ℕ → ℕ
known_set set none = set
known_set set (some k) = including k set

abbrev pub known_apart : List ℕ → ℕ → Bool → ℕ → Option ℕ → Bool
known_apart rows set apart iei none = apart
known_apart rows set apart iei (some k) = apart || apart_by rows set k iei

unfoldable pub entry_set : List Row → Placed → ℕ → ℕ
entry_set t (known_iei i) set = known_set set (place_of t i)
entry_set t not_known set = set
entry_set t (ignored r) set = set

unfoldable pub entry_apart : List Row → List ℕ → Placed → ℕ → Bool → Bool
entry_apart t rows (known_iei i) set apart = known_apart rows set apart i (place_of t i)
entry_apart t rows not_known set apart = apart
entry_apart t rows (ignored r) set apart = apart

-- what is known with entries left, of all entries of a log: a place not in the set has its IEI by those left; of the places in it the
-- rows agree, unless one was found that does not
pub record Agreeing (t : List Row) (rows : List ℕ) (all left : List Placed) (set : ℕ) (apart : Bool) : Type 0 where
  pub ahead : (k : ℕ) → bit k set ≡ false → iei_for t left k ≡ iei_for t all k
  pub agreed : apart ≡ false → (k : ℕ) → bit k set ≡ true → apart_at t all rows k ≡ false
  pub found : apart ≡ true → (k : ℕ) × (k < length t) × (apart_at t all rows k ≡ true)
