-- The added elements by a place that only rises: those below an entry's place are those up to it, and the others those from the higher
-- of both on. So what is left to write goes over an entry. By induction on how many places are left.
use Prim.Native.Nat.{ℕ, zero, suc, ◌+◌, ◌-◌, ◌≤◌, ◌<◌, max}
use native.Mathlib.Omega.{arith}
use mathlib.Core.Path.{◌≡◌, refl, ap, ap₂, sym, ◌∙◌}
use mathlib.Core.List.{List, [], ◌∷◌, ◌++◌, append-nil, append_assoc}
use mathlib.Core.Bool.{Bool, true, false, ◌&&◌, not}
use mathlib.Core.Option.{Option, none, some}
use borrow.Author.Tests.{ltb-true, ltb-false, lt-ltb, le-ltb}
use lib.ListN.{length}
use lib.Dec.{ltb}
use Rattle.definitions.specs.Basic.{pick, bit, among, concat}
use Rattle.definitions.specs.Rows.{first_iei, first_bad, place_of}
use Rattle.definitions.specs.Values.{value_at, present}
use Rattle.definitions.specs.Logs.{Placed, known_iei, not_known, ignored, Reason}
use Rattle.definitions.specs.Writing.{Filled, element_at, logged, added_from, below, not_below, firsts, walked, written}
use Rattle.definitions.proofs.RowLaws.{listed}
use Rattle.definitions.proofs.LogSteps.{rest_of}
use Rattle.measured_writing.specs.Added.{added_in, added_octets}

-- the element of a place, if it is in the set of the added ones
unfoldable pub added_piece : Filled → ℕ → ℕ → List ℕ
added_piece m set k = pick (bit k set) (element_at m k (first_iei m.table k)) []

-- the next kept element, if there is one
unfoldable pub next_of : List (List ℕ) → List ℕ
next_of [] = []
next_of (e ∷ es) = e

-- what an entry of a known IEI with a place writes, or of one without, and the place from which added elements are left behind it
abbrev pub known_piece : Filled → ℕ → ℕ → ℕ → Option ℕ → List ℕ
known_piece m set iei from none = []
known_piece m set iei from (some k) = added_octets m set from k ++ element_at m k iei

abbrev pub known_place : ℕ → Option ℕ → ℕ
known_place from none = from
known_place from (some k) = max from k

-- what is left to write from a place on, by the entries and the kept elements that are left
unfoldable pub left_of : Filled → ℕ → List Placed → ℕ → List (List ℕ) → List ℕ
left_of m set ps from ks = walked m ps (added_in set from (length m.table - from)) ks

module _ (m : Filled) (s : ℕ) where
  -- ---- a place at a time

  -- the element of a place in the set under its first IEI; nothing of another
  module _ (k : ℕ) where
    pub piece_added : bit k s ≡ true → added_piece m s k ≡ element_at m k (first_iei m.table k)
    unfolding added_piece
    piece_added e = rw e

    pub piece-not : bit k s ≡ false → added_piece m s k ≡ []
    unfolding added_piece
    piece-not e = rw e

  pub added-step : (k n : ℕ) → firsts m (added_in s k (suc n)) ≡ added_piece m s k ++ firsts m (added_in s (suc k) n)
  unfolding added_piece added_in firsts
  added-step k n = by (bit k s)
    where
      rest : List ℕ
      rest = added_in s (suc k) n

      by : (b : Bool) → firsts m (pick b (k ∷ rest) rest) ≡ pick b (element_at m k (first_iei m.table k)) [] ++ firsts m rest
      by true = refl
      by false = refl

  -- with a place more at the end
  snoc : (k n : ℕ) → firsts m (added_in s k (suc n)) ≡ firsts m (added_in s k n) ++ added_piece m s (k + n)
  unfolding added_in firsts
  snoc k zero =
      let z : k + 0 ≡ k = omega arith in
      added-step k 0 ∙ append-nil (added_piece m s k) ∙ ap (added_piece m s) (sym z)
  snoc k (suc n) =
      let z : suc k + n ≡ k + suc n = omega arith in
      added-step k (suc n) ∙ ap (λ (x : List ℕ). added_piece m s k ++ x) (snoc (suc k) n)
      ∙ sym (append_assoc (added_piece m s k) (firsts m (added_in s (suc k) n)) (added_piece m s (suc k + n)))
      ∙ ap₂ ◌++◌ (sym (added-step k n)) (ap (added_piece m s) z)

  pub added_more : (k : ℕ) → added_octets m s 0 (k + 1) ≡ added_octets m s 0 k ++ added_piece m s k
  unfolding added_octets
  added_more k =
      let z : k + 1 - 0 ≡ suc k = omega arith in
      let y : k ≡ k - 0 = omega arith in
      let x : 0 + k ≡ k = omega arith in
      ap (λ (j : ℕ). firsts m (added_in s 0 j)) z ∙ snoc 0 k ∙ ap₂ (λ (j i : ℕ). firsts m (added_in s 0 j) ++ added_piece m s i) y x

  -- ---- the added places by a place that rises

  module _ (n c k : ℕ) where
    rest : List ℕ
    rest = added_in s (suc c) n

    below_more : (p : Bool) {next : List ℕ} → c < k → below k rest ≡ next → below k (pick p (c ∷ rest) rest) ≡ pick p (c ∷ next) next
    unfolding below
    below_more true h r = rw (lt-ltb c k h, r)
    below_more false h r = r

    below_none : (p : Bool) → k ≤ c → below k rest ≡ [] → below k (pick p (c ∷ rest) rest) ≡ []
    unfolding below
    below_none true h r = rw (le-ltb c k h) r
    below_none false h r = r

    not-below-passed : (p : Bool) → c < k → not_below k (pick p (c ∷ rest) rest) ≡ not_below k rest
    unfolding not_below
    not-below-passed true h = rw (lt-ltb c k h)
    not-below-passed false h = refl

    not-below-more : (p : Bool) {next : List ℕ} → k ≤ c → not_below k rest ≡ next → not_below k (pick p (c ∷ rest) rest) ≡ pick p (c ∷ next) next
    unfolding not_below
    not-below-more true h r = rw (le-ltb c k h, r)
    not-below-more false h r = r

  pub below_in : (n c k : ℕ) → k ≤ c + n → below k (added_in s c n) ≡ added_in s c (k - c)
  unfolding below added_in rest
  below_in zero c k h = let z : k - c ≡ 0 = omega arith in rw z
  below_in (suc n) c k h = by (ltb c k) refl (below_in n (suc c) k (omega arith))
    where
      by : (b : Bool) → ltb c k ≡ b → below k (added_in s (suc c) n) ≡ added_in s (suc c) (k - suc c) → below k (added_in s c (suc n)) ≡ added_in s c (k - c)
      by true e r =
          let l = ltb-true c k e in
          let z : k - c ≡ suc (k - suc c) = omega arith in
          below_more n c k (bit c s) l r ∙ ap (λ (j : ℕ). added_in s c j) (sym z)
      by false e r =
          let l = ltb-false c k e in
          let z : k - suc c ≡ 0 = omega arith in
          let y : k - c ≡ 0 = omega arith in
          below_none n c k (bit c s) l (r ∙ ap (λ (j : ℕ). added_in s (suc c) j) z) ∙ ap (λ (j : ℕ). added_in s c j) (sym y)

  pub not-below-in : (n c k : ℕ) → k ≤ c + n → not_below k (added_in s c n) ≡ added_in s (max c k) (c + n - max c k)
  unfolding not_below added_in rest
  not-below-in zero c k h = let z : c + 0 - max c k ≡ 0 = omega arith in ap (λ (j : ℕ). added_in s (max c k) j) (sym z)
  not-below-in (suc n) c k h = by (ltb c k) refl (not-below-in n (suc c) k (omega arith))
    where
      by : (b : Bool) → ltb c k ≡ b → not_below k (added_in s (suc c) n) ≡ added_in s (max (suc c) k) (suc c + n - max (suc c) k)
          → not_below k (added_in s c (suc n)) ≡ added_in s (max c k) (c + suc n - max c k)
      by true e r =
          let l = ltb-true c k e in
          let x : max (suc c) k ≡ max c k = omega arith in
          let y : suc c + n - max (suc c) k ≡ c + suc n - max c k = omega arith in
          not-below-passed n c k (bit c s) l ∙ r ∙ ap₂ (λ (i j : ℕ). added_in s i j) x y
      by false e r =
          let l = ltb-false c k e in
          let x : max (suc c) k ≡ suc c = omega arith in
          let y : suc c + n - max (suc c) k ≡ n = omega arith in
          let x' : max c k ≡ c = omega arith in
          let y' : c + suc n - max c k ≡ suc n = omega arith in
          not-below-more n c k (bit c s) l (r ∙ ap₂ (λ (i j : ℕ). added_in s i j) x y) ∙ ap₂ (λ (i j : ℕ). added_in s i j) (sym x') (sym y')

  -- ---- what is left to write

  abbrev n : ℕ
  n = length m.table

  module _ (passes : first_bad m.table ≡ none) (from : ℕ) (inside : from ≤ length m.table) (ps : List Placed) (ks : List (List ℕ)) where
    -- over a known entry
    left-known : (i : ℕ) (o : Option ℕ) → place_of m.table i ≡ o
        → elim o [
          | none ↦ walked m ps (added_in s from (n - from)) ks
          | some k ↦ firsts m (below k (added_in s from (n - from))) ++ (element_at m k i ++ walked m ps (not_below k (added_in s from (n - from))) ks)
        ]
        ≡ known_piece m s i from o ++ walked m ps (added_in s (known_place from o) (n - known_place from o)) ks
    unfolding added_octets
    left-known i none e = refl
    left-known i (some k) e =
        let h : k < n = (listed m.table i k passes e).inside in
        let z : from + (n - from) ≡ n = omega arith in
        let a : below k (added_in s from (n - from)) ≡ added_in s from (k - from) = below_in (n - from) from k (omega arith) in
        let b : not_below k (added_in s from (n - from)) ≡ added_in s (max from k) (n - max from k) =
        not-below-in (n - from) from k (omega arith) ∙ ap (λ (j : ℕ). added_in s (max from k) (j - max from k)) z in
        rw (a, b) (sym (append_assoc (firsts m (added_in s from (k - from))) (element_at m k i) (walked m ps (added_in s (max from k) (n - max from k)) ks)))

    pub left_step : (i : ℕ) → left_of m s (known_iei i ∷ ps) from ks ≡ known_piece m s i from (place_of m.table i) ++ left_of m s ps (known_place from (place_of m.table i)) ks
    unfolding left_of walked
    left_step i = left-known i (place_of m.table i) refl

    -- the place stays in the table
    known-inside : (i : ℕ) (o : Option ℕ) → place_of m.table i ≡ o → known_place from o ≤ n
    known-inside i none e = inside
    known-inside i (some k) e = let h : k < n = (listed m.table i k passes e).inside in omega arith

    pub place_inside : (i : ℕ) → known_place from (place_of m.table i) ≤ n
    place_inside i = known-inside i (place_of m.table i) refl

  -- over an entry of no known element
  abbrev pub Passed : Placed → Type 0
  Passed p = (ps : List Placed) (from : ℕ) (ks : List (List ℕ)) → left_of m s (p ∷ ps) from ks ≡ next_of ks ++ left_of m s ps from (rest_of ks)

  pub left-unknown : Passed not_known
  unfolding left_of walked next_of rest_of
  left-unknown ps from [] = refl
  left-unknown ps from (e ∷ es) = refl

  pub left-ignored : (r : Reason) → Passed (ignored r)
  unfolding left_of walked next_of rest_of
  left-ignored r ps from [] = refl
  left-ignored r ps from (e ∷ es) = refl

  -- at the end
  pub left_end : (from : ℕ) (ks : List (List ℕ)) → left_of m s [] from ks ≡ added_octets m s from n ++ concat ks
  unfolding left_of walked added_octets
  left_end from ks = refl

  -- all of it, by the set of the added places
  module _ (js : List ℕ) (h : (k : ℕ) → k < length m.table → (present (value_at m.rows k) && not (among k js)) ≡ bit k s) where
    added-in : (k n : ℕ) → k + n ≤ length m.table → added_from m js k n ≡ added_in s k n
    unfolding added_from added_in
    added-in k zero l = refl
    added-in k (suc n) l = rw (h k (omega arith), added-in (suc k) n (omega arith))

  pub written-left : (ps : List Placed) (ks : List (List ℕ))
      → ((k : ℕ) → k < length m.table → (present (value_at m.rows k) && not (among k (logged m.table ps))) ≡ bit k s) → written m ps ks ≡ left_of m s ps 0 ks
  unfolding written left_of
  written-left ps ks h =
      let z : n ≡ n - 0 = omega arith in
      ap (λ (a : List ℕ). walked m ps a ks) (added-in (logged m.table ps) h 0 n (omega arith) ∙ ap (λ (j : ℕ). added_in s 0 j) z)

-- two sets that are the same below a place
same_in : (s u k n : ℕ) → ((j : ℕ) → j < k + n → bit j s ≡ bit j u) → added_in s k n ≡ added_in u k n
unfolding added_in
same_in s u k zero h = refl
same_in s u k (suc n) h = rw (h k (omega arith), same_in s u (suc k) n (λ j l. h j (omega arith)))

pub same-octets : (m : Filled) (s u k : ℕ) → ((j : ℕ) → j < k → bit j s ≡ bit j u) → added_octets m s 0 k ≡ added_octets m u 0 k
unfolding added_octets
same-octets m s u k h = ap (firsts m) (same_in s u 0 (k - 0) (λ j l. h j (omega arith)))
