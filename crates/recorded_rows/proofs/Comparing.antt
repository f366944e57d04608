-- Numbers from a position on, a row by its four numbers, and places one on.
-- Each by the test that decides it.
use Prim.Native.Nat.{ℕ, suc, ◌+◌, ◌-◌, ◌≤◌, ◌<◌}
use native.Mathlib.Omega.{arith}
use native.Mathlib.Numerals.{add-one}
use mathlib.Core.Path.{◌≡◌, refl, ap, ◌∙◌}
use Rattle.std.specs.List.{list_all}
use mathlib.Core.List.{List, [], ◌∷◌}
use mathlib.Core.Bool.{Bool, true, false, ◌&&◌}
use borrow.Author.Tests.{eq-eqb, ne_eqb, lt-ltb, le-ltb}
use lib.ListN.{get_or, drop}
use lib.Dec.{eqb}
use Rattle.definitions.specs.Basic.{pick}
use Rattle.recorded.specs.Format.{after, number_from}
use Rattle.recorded.specs.Lent.{lent_number}
use Rattle.recorded_rows.specs.Places.{all_are, row_is, place_is, next_is, behind_place, places_from}

-- ---- numbers from a position on

pub all-same : (x : ℕ) (s : List ℕ) → list_all (λ y. eqb y x) s ≡ all_are x s
unfolding all_are
all-same x [] = refl
all-same x (y ∷ s) = ap (λ (b : Bool). eqb y x && b) (all-same x s)

-- ---- places

module _ (at : ℕ) (s : List ℕ) (rows : List ℕ) (row : ℕ) {b : Bool} where
  pub place-absent : b ≡ false → place_is at s b rows row ≡ row_is rows row 0 0 0 0
  unfolding place_is
  place-absent e = rw e

  pub place-there : b ≡ true → place_is at s b rows row ≡ row_is rows row 1 (number_from 2 (after at 1) s) (number_from 2 (after at 3) s) (get_or s (after at 5) 0)
  unfolding place_is
  place-there e = rw e

pub no-next : (at : ℕ) (s : List ℕ) (end k : ℕ) → end ≤ at → next_is at s end k ≡ false
unfolding next_is
no-next at s end k h = rw (le-ltb at end h)

pub next-by : (at : ℕ) (s : List ℕ) (end k : ℕ) → at < end → next_is at s end k ≡ eqb (get_or s at 0) k
unfolding next_is
next-by at s end k h = rw (lt-ltb at end h)

pub behind-by : (at : ℕ) {b c : Bool} → b ≡ c → behind_place at b ≡ pick c (after at 6) at
unfolding behind_place
behind-by at e = rw e

module _ (s : List ℕ) (end : ℕ) (rows : List ℕ) (n at row k : ℕ) where
  module _ (h : k < n) where
    places-next : places_from s end rows (n - k) at row k
        ≡ (place_is at s (next_is at s end k) rows row && places_from s end rows (n - (k + 1)) (behind_place at (next_is at s end k)) (after row 4) (k + 1))
    unfolding places_from
    places-next = let z : n - k ≡ suc (n - (k + 1)) = omega arith in rw (z, add-one)

    pub place-not : place_is at s (next_is at s end k) rows row ≡ false → places_from s end rows (n - k) at row k ≡ false
    place-not e = places-next ∙ rw e

    pub place-on : place_is at s (next_is at s end k) rows row ≡ true
        → places_from s end rows (n - k) at row k ≡ places_from s end rows (n - (k + 1)) (behind_place at (next_is at s end k)) (after row 4) (k + 1)
    place-on e = places-next ∙ rw e

  module _ (h : n ≤ k) where
    places-over : places_from s end rows (n - k) at row k ≡ (eqb at end && all_are lent_number (drop row rows))
    unfolding places_from
    places-over = let z : n - k ≡ 0 = omega arith in rw z

    pub other-end : (at ≡ end → ⊥) → places_from s end rows (n - k) at row k ≡ false
    other-end e = places-over ∙ rw (ne_eqb at end e)

    pub same_end : at ≡ end → places_from s end rows (n - k) at row k ≡ all_are lent_number (drop row rows)
    same_end e = places-over ∙ rw (eq-eqb at end e)
