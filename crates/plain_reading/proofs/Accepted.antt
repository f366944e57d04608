-- What stands behind an accepted element: its place is in the table and was not met, and it has its header.
-- By the definition of a verdict: an accepted element is not repeated, and its row took it whole.
use Prim.Native.Nat.{ℕ, suc, ◌+◌, ◌≤◌, ◌<◌}
use native.Mathlib.Omega.{arith}
use mathlib.Core.Path.{◌≡◌, refl}
use mathlib.Core.List.{List, [], ◌∷◌}
use mathlib.Core.Bool.{Bool, true, false, false≢true}
use mathlib.Core.Option.{Option, none, some}
use lib.ListN.{length}
use lib.Seq.{length-take-le}
use Rattle.definitions.specs.Basic.{pick, among, bit}
use Rattle.definitions.specs.Rows.{Row, row_at, form, ieis, place_from, place_of}
use Rattle.definitions.specs.Length.{header, whole}
use Rattle.definitions.specs.Elements.{is_accepted, judged, taken, octets_of, Element, Met, meet, stranger, known}
use Rattle.definitions.proofs.Steps.{Stands, strange, placed, Frames, whole-frames}

-- ---- a place is one of the table's

from-inside : (j x k : ℕ) (t : List Row) → place_from j t x ≡ some k → k < j + length t
unfolding place_from
from-inside j x k [] e = let z : ◌≡◌ {A = ℕ} 0 1 = cc in absurd (omega arith)
from-inside j x k (r ∷ rs) e = by (among x (ieis r)) e (from-inside (suc j) x k rs)
  where
    by : (b : Bool) → pick b (some j) (place_from (suc j) rs x) ≡ some k → (place_from (suc j) rs x ≡ some k → k < suc j + length rs) → k < j + length (r ∷ rs)
    by true q r = let z : j ≡ k = cc in omega arith
    by false q r = omega (arith, r q)

pub place_inside : (t : List Row) (x k : ℕ) → place_of t x ≡ some k → k < length t
unfolding place_of
place_inside t x k e = omega (arith, from-inside 0 x k t e)

-- ---- what an accepted element says

pub judged-accepted : (option again behind ok : Bool) → is_accepted (judged option again behind ok) ≡ true → (again ≡ false) × (ok ≡ true)
unfolding judged is_accepted
judged-accepted option true behind ok e = absurd (false≢true e)
judged-accepted true false true true e = (refl, refl)
judged-accepted true false true false e = absurd (false≢true e)
judged-accepted false false true ok e = absurd (false≢true e)
judged-accepted option false false true e = (refl, refl)
judged-accepted option false false false e = absurd (false≢true e)

pub record Accepted (t : List Row) (m m' : Met) (e : Element) : Type 0 where
  pub place : ℕ
  pub has : e.place ≡ some place
  pub inside : place < length t
  pub new : bit place m.places ≡ false
  pub meets : m' ≡ meet place m
  pub headed : header (form (row_at t place)) ≤ length e.octets

pub accepted-one : {t : List Row} {start : ℕ} {option : Bool} {m m' : Met} {at : ℕ} {s : List ℕ} {e : Element}
    → Stands t start option m at s e m' → is_accepted e.verdict ≡ true → Accepted t m m' e
unfolding stranger known is_accepted taken octets_of
accepted-one (strange p r) a = absurd (false≢true a)
accepted-one {t = t} {option = option} {m = m} (placed {x = x} {xs = xs} k p) a =
    record { place = k; has = refl; inside = place_inside t _ k p; new = j.0; meets = refl; headed = by (whole (form (row_at t k)) (x ∷ xs)) (whole-frames (form (row_at t k)) (x ∷ xs)) j.1 }
  where
    j : (bit k m.places ≡ false) × (taken (row_at t k) (whole (form (row_at t k)) (x ∷ xs)) (x ∷ xs) ≡ true)
    j = judged-accepted option _ _ _ a

    by : (o : Option ℕ) → Frames (form (row_at t k)) (x ∷ xs) o → taken (row_at t k) o (x ∷ xs) ≡ true → header (form (row_at t k)) ≤ length (octets_of o (x ∷ xs))
    by none f b = absurd (false≢true b)
    by (some n) f b = rw (length-take-le n (x ∷ xs) f.1) f.3
