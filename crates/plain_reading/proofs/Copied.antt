-- What is copied and cleared where there is enough on both sides, and what a pass says of a part.
-- By the definition of a part of which the table says all.
use Prim.Native.Nat.{ℕ, ◌≤◌, min}
use native.Mathlib.Omega.{arith}
use mathlib.Core.Path.{◌≡◌, refl, sym}
use mathlib.Core.List.{List}
use mathlib.Core.Bool.{Bool, true, false, false≢true}
use mathlib.Core.Option.{none, some}
use lib.ListN.{length, take, replicate}
use lib.Seq.{take-append_seam}
use Rattle.definitions.specs.Basic.{pick, over}
use Rattle.definitions.specs.Rows.{Row}
use Rattle.definitions.specs.Elements.{Parted, elements, cut_short, elements_of}
use Rattle.definitions.specs.Logs.{plain_from}
use Rattle.plain_reading.specs.Entered.{entered_all}
use Rattle.plain_reading.specs.Plains.{plain_in, plain_rows}

pub front-is : (a b : List ℕ) (m : ℕ) → length a ≡ m → take m (over a b) ≡ a
unfolding over
front-is a b m e = rw (← e) (take-append_seam a _)

-- a copy of n numbers that both sides have
pub all-copied : (rows found : List ℕ) (n : ℕ) → n ≤ length rows → n ≤ length found → {rows' : List ℕ} → rows' ≡ over (take (min n (min (length rows) (length found))) found) rows → rows' ≡ over (take n found) rows
all-copied rows found n a b e = let m : min n (min (length rows) (length found)) ≡ n = omega arith in rw m at e

-- so many cleared, of as many as there are
pub first-cleared : (rows : List ℕ) (n : ℕ) → n ≤ length rows → {rows' : List ℕ} → rows' ≡ over (replicate (min n (length rows)) 0) rows → rows' ≡ over (replicate n 0) rows
first-cleared rows n h e = let m : min n (length rows) ≡ n = omega arith in rw m at e

-- ---- what a pass says of a part

pub plain-decodes : (t : List Row) (p : Parted) → plain_in t 0 p ≡ true → p ≡ elements (elements_of p)
unfolding elements_of
plain-decodes t (elements es) e = refl
plain-decodes t (cut_short a x n m) e = absurd (false≢true e)

pub record Told (t : List Row) (o : Parted) (rows found : List ℕ) : Type 0 where
  pub is : true ≡ plain_in t 0 o
  pub decodes : o ≡ elements (elements_of o)
  pub found-is : found ≡ entered_all t (elements_of o) rows

pub told : (t : List Row) (o : Parted) (rows found : List ℕ) → some found ≡ plain_rows t 0 o rows → Told t o rows found
unfolding elements_of
told t (cut_short a x n m) rows found e = cc
told t (elements es) rows found e = go (plain_from t 0 es) refl e
  where
    go : (b : Bool) → plain_from t 0 es ≡ b → some found ≡ pick b (some (entered_all t es rows)) none → Told t (elements es) rows found
    go true d g = let h : found ≡ entered_all t es rows = cc in record { is = sym d; decodes = refl; found-is = h }
    go false d g = cc

pub untold : (t : List Row) (o : Parted) (rows : List ℕ) → none ≡ plain_rows t 0 o rows → false ≡ plain_in t 0 o
untold t (cut_short a x n m) rows e = refl
untold t (elements es) rows e = go (plain_from t 0 es) _ e
  where
    go : (b : Bool) (x : List ℕ) → none ≡ pick b (some x) none → false ≡ b
    go true x g = cc
    go false x g = refl
