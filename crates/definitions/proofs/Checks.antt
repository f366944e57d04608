-- Checks that passed: what no refusal says of each, and laws of tests that hold nowhere.
-- By cases, and by induction on the numbers that are left.
use Prim.Native.Nat.{ℕ, zero, suc, ◌+◌, ◌≤◌, ◌<◌}
use native.Mathlib.Omega.{arith}
use mathlib.Core.Path.{◌≡◌, refl, ap, sym, ◌∙◌}
use mathlib.Core.List.{List, ◌∷◌}
use mathlib.Core.Bool.{Bool, true, false, ◌||◌, not, true≢false}
use mathlib.Core.Option.{Option, none, some}
use lib.Dec.{eqb}
use borrow.Author.Tests.{eqb-true, eqb-false}
use Rattle.definitions.specs.Basic.{pick, is_none, Answer, refuse, refusal}
use Rattle.definitions.specs.Values.{first_from, any_of}

pub pass : (c : Option Answer) (cs : List (Option Answer)) → refusal (c ∷ cs) ≡ none → (c ≡ none) × (refusal cs ≡ none)
unfolding refusal
pass none cs h = (refl, h)
pass (some a) cs h = let z : ◌≡◌ {A = ℕ} 0 1 = cc in absurd (omega arith)

pub is_false : (b : Bool) (n : ℕ) (vs : List ℕ) → refuse b n vs ≡ none → b ≡ false
is_false false n vs h = refl
is_false true n vs h = let z : ◌≡◌ {A = ℕ} 0 1 = cc in absurd (omega arith)

pub neither : (a b : Bool) → (a || b) ≡ false → (a ≡ false) × (b ≡ false)
neither false b h = (refl, h)
neither true b h = absurd (true≢false h)

-- ---- the first of some numbers at which a test holds

pub first-none : (test : ℕ → Bool) (k n : ℕ) → ((i : ℕ) → i < k + n → test i ≡ false) → first_from test k n ≡ none
unfolding first_from
first-none test k zero h = refl
first-none test k (suc n) h = rw (h k (omega arith)) (first-none test (suc k) n (λ i l. h i (omega arith)))

pub none_first : (test : ℕ → Bool) (k n : ℕ) → first_from test k n ≡ none → (i : ℕ) → k ≤ i → i < k + n → test i ≡ false
unfolding first_from
none_first test k zero h i a b = absurd (omega arith)
none_first test k (suc n) h i a b = by (test k) refl h (eqb i k) refl (λ q c d. none_first test (suc k) n q i c d)
  where
    by : (x : Bool) → test k ≡ x → pick x (some k) (first_from test (suc k) n) ≡ none → (y : Bool) → eqb i k ≡ y
        → (first_from test (suc k) n ≡ none → suc k ≤ i → i < suc k + n → test i ≡ false) → test i ≡ false
    by true e q y z r = let w : ◌≡◌ {A = ℕ} 0 1 = cc in absurd (omega arith)
    by false e q true z r = ap test (eqb-true i k z) ∙ e
    by false e q false z r = let d : i ≡ k → ⊥ = eqb-false i k z in r q (omega arith) (omega arith)

pub first-same : (f g : ℕ → Bool) (k n : ℕ) → ((i : ℕ) → k ≤ i → i < k + n → f i ≡ g i) → first_from f k n ≡ first_from g k n
unfolding first_from
first-same f g k zero h = refl
first-same f g k (suc n) h = rw (h k (omega arith) (omega arith), first-same f g (suc k) n (λ i a b. h i (omega arith) (omega arith)))

-- ---- whether it holds of one of them

module _ (test : ℕ → Bool) (n : ℕ) where
  pub none_of : ((k : ℕ) → k < n → test k ≡ false) → any_of test n ≡ false
  unfolding is_none
  none_of h = rw (first-none test 0 n (λ i l. h i (omega arith)))

  pub of_none : any_of test n ≡ false → (k : ℕ) → k < n → test k ≡ false
  unfolding is_none
  of_none h k l = none_first test 0 n (by (first_from test 0 n) h) k (omega arith) (omega arith)
    where
      by : (o : Option ℕ) → not (is_none o) ≡ false → o ≡ none
      by none h = refl
      by (some j) h = absurd (true≢false h)

  pub one_of : (k : ℕ) → k < n → test k ≡ true → any_of test n ≡ true
  one_of k l e = by (any_of test n) refl
    where
      by : (b : Bool) → any_of test n ≡ b → b ≡ true
      by true q = refl
      by false q = absurd (true≢false (sym e ∙ of_none q k l))

pub either-of : (f g : ℕ → Bool) (n : ℕ) → any_of (λ k. f k || g k) n ≡ (any_of f n || any_of g n)
either-of f g n = by (any_of f n) (any_of g n) refl refl (any_of (λ k. f k || g k) n) refl
  where
    by : (a b : Bool) → any_of f n ≡ a → any_of g n ≡ b → (c : Bool) → any_of (λ k. f k || g k) n ≡ c → c ≡ (a || b)
    by false false p q c r =
        sym r ∙ none_of (λ k. f k || g k) n (λ k l. rw (of_none f n p k l) (of_none g n q k l))
    by true b p q true r = refl
    by true b p q false r =
        absurd (true≢false (sym p ∙ none_of f n (λ k l. (neither (f k) (g k) (of_none (λ k. f k || g k) n r k l)).0)))
    by false true p q true r = refl
    by false true p q false r =
        absurd (true≢false (sym q ∙ none_of g n (λ k l. (neither (f k) (g k) (of_none (λ k. f k || g k) n r k l)).1)))
