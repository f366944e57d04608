-- The checks that showing, setting and clearing share, by the definitions.
use Rattle.std.specs.Prelude.{ℕ, ◌+◌, List, [], ◌∷◌, Bool, ◌||◌, ltb, Result, Ok, Err}
use Rattle.std.proofs.Math.Option.{Option, none, some}
use Rattle.definitions.specs.Basic.{Answer, answer, Used, most_octets}
use Rattle.definitions.specs.Values.{values_too_long}
use Rattle.values.specs.declared.check.PlaceError.{PlaceError}

-- the first refusal, if there is one
abbrev pub error_as : PlaceError → Answer
error_as (PlaceError.BadTable k) = answer 4 (k ∷ [])
error_as PlaceError.TooLong = answer 3 []
error_as PlaceError.NoRoom = answer 2 (1 ∷ [])
error_as PlaceError.Malformed = answer 11 (3 ∷ [])

abbrev pub place_check_as : Result Unit PlaceError → Option Answer
place_check_as (Ok x) = none
place_check_as (Err e) = some (error_as e)

-- refusal 3, also where the set octets would be over their limit with so many more
unfoldable pub long_with : List ℕ → Used → ℕ → Bool
long_with received set more = values_too_long received set || ltb most_octets (set.used + more)
