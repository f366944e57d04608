-- A search for the lowest row that a test holds of: what is left to look at decides as all of them do.
-- Each law is the definition's own clause.
use Prim.Native.Nat.{ℕ, zero, suc, ◌+◌, ◌-◌, ◌≤◌, ◌<◌}
use native.Mathlib.Omega.{arith}
use native.Mathlib.Numerals.{add-one}
use mathlib.Core.Path.{◌≡◌, refl, ap, sym, ◌∙◌}
use mathlib.Core.Bool.{Bool, true, false, not}
use mathlib.Core.Option.{none, some}
use borrow.Author.Tests.{le-leb, eqb-true, eqb-false}
use lib.Dec.{eqb}
use Rattle.definitions.specs.Basic.{pick}
use Rattle.definitions.specs.Values.{Value, present, first_from}

pub record Searching (test : ℕ → Bool) (n k : ℕ) : Type 0 where
  pub within : k ≤ n
  pub finds : first_from test k (n - k) ≡ first_from test 0 n

module _ (test : ℕ → Bool) (n : ℕ) where
  pub searching : Searching test n 0
  searching = let e : n - 0 ≡ n = omega arith in record { within = omega arith; finds = ap (first_from test 0) e }

  module _ (k : ℕ) (i : Searching test n k) where
    pub found_nowhere : n ≤ k → first_from test 0 n ≡ none
    unfolding first_from
    found_nowhere h = let e : n - k ≡ 0 = omega arith in sym (rw e at i.finds)

    module _ (h : k < n) where
      step : first_from test 0 n ≡ pick (test k) (some k) (first_from test (k + 1) (n - (k + 1)))
      unfolding first_from
      step =
          let e : n - k ≡ suc (n - (k + 1)) = omega arith in
          sym i.finds ∙ rw (e, add-one k)

      pub found_here : test k ≡ true → first_from test 0 n ≡ some k
      found_here e = rw e at step

      pub found-not : test k ≡ false → Searching test n (k + 1)
      found-not e = record { within = omega arith; finds = sym (rw e at step) }

-- a value is absent where its source is 0
pub absent : (v : Value) → v.source ≡ 0 → not (present v) ≡ true
unfolding present
absent v e = rw e

pub not-absent : (v : Value) → 1 ≤ v.source → not (present v) ≡ false
unfolding present
not-absent v h = rw (le-leb 1 v.source h)

-- what holds of no row holds not of each
pub nowhere : (test : ℕ → Bool) (k n : ℕ) → first_from test k n ≡ none → (j : ℕ) → k ≤ j → j < k + n → test j ≡ false
unfolding first_from
nowhere test k zero e j a b = absurd (omega arith)
nowhere test k (suc n) e j a b = go (test k) refl e (nowhere test (suc k) n)
  where
    go : (x : Bool) → test k ≡ x → pick x (some k) (first_from test (suc k) n) ≡ none → (first_from test (suc k) n ≡ none → (j : ℕ) → suc k ≤ j → j < suc k + n → test j ≡ false) → test j ≡ false
    go true q e m = let z : ◌≡◌ {A = ℕ} 0 1 = cc in absurd (omega arith)
    go false q e m = by (eqb k j) refl
      where
        by : (y : Bool) → eqb k j ≡ y → test j ≡ false
        by true p = let s : k ≡ j = eqb-true k j p in rw s at q
        by false p = let s : k ≡ j → ⊥ = eqb-false k j p in m e j (omega arith) (omega arith)
