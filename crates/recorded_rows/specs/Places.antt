-- Place rows in a recorded list: of each present place in turn its number, start and length of its value, of two octets each, and its IEI.
use Rattle.std.specs.Prelude.{ℕ, zero, suc, List, [], ◌∷◌, Bool, true, ◌&&◌, eqb, ltb, get_or, drop}
use Rattle.definitions.specs.Basic.{pick}
use Rattle.recorded.specs.Format.{after, number_from}
use Rattle.recorded.specs.Lent.{lent_number}

-- whether all numbers are x
unfoldable pub all_are : ℕ → List ℕ → Bool
all_are x [] = true
all_are x (y ∷ s) = eqb y x && all_are x s

-- whether the row at a position is these four numbers
unfoldable pub row_is : List ℕ → ℕ → ℕ → ℕ → ℕ → ℕ → Bool
row_is rows at source start size iei =
    eqb (get_or rows at 0) source && (eqb (get_or rows (after at 1) 0) start && (eqb (get_or rows (after at 2) 0) size && eqb (get_or rows (after at 3) 0) iei))

-- whether it is the place at a position of the list, received; or absent
unfoldable pub place_is : ℕ → List ℕ → Bool → List ℕ → ℕ → Bool
place_is at s present rows row =
    pick present (row_is rows row 1 (number_from 2 (after at 1) s) (number_from 2 (after at 3) s) (get_or s (after at 5) 0)) (row_is rows row 0 0 0 0)

-- whether the place at a position, before the end, is k
unfoldable pub next_is : ℕ → List ℕ → ℕ → ℕ → Bool
next_is at s end k = ltb at end && eqb (get_or s at 0) k

unfoldable pub behind_place : ℕ → Bool → ℕ
behind_place at present = pick present (after at 6) at

-- whether the n rows from a position on are those of the places from k on, up to the end, and what was lent behind them
unfoldable pub places_from : List ℕ → ℕ → List ℕ → ℕ → ℕ → ℕ → ℕ → Bool
places_from s end rows zero at row k = eqb at end && all_are lent_number (drop row rows)
places_from s end rows (suc n) at row k =
    place_is at s (next_is at s end k) rows row && places_from s end rows n (behind_place at (next_is at s end k)) (after row 4) (suc k)
