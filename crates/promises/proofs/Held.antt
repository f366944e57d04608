-- What is written depends on what each place of the table holds, and not on where the octets of its value stand.
-- The added places are the same, and so is each element under each IEI: by induction on the places and on the entries of the order log.
use Prim.Native.Nat.{ℕ, zero, suc, ◌+◌, ◌≤◌, ◌<◌}
use native.Mathlib.Omega.{arith}
use mathlib.Core.Path.{◌≡◌, refl, ap}
use mathlib.Core.List.{List, [], ◌∷◌, ◌++◌}
use mathlib.Core.Bool.{Bool, true, false, ◌&&◌, not}
use mathlib.Core.Option.{Option, none, some}
use lib.ListN.{length}
use lib.Dec.{leb, ltb}
use Rattle.definitions.specs.Basic.{pick, among}
use Rattle.definitions.specs.Rows.{Row, row_at, form, first_bad, place_of, first_iei}
use Rattle.definitions.specs.Logs.{Placed, known_iei, not_known, ignored}
use Rattle.definitions.specs.Values.{Octets, value_at, present, octets_at, fits, unfit_at}
use Rattle.definitions.specs.Writing.{Filled, encoded, element_at, logged, added_from, below, not_below, firsts, walked, written, unfit}
use Rattle.definitions.proofs.Checks.{first-same}
use Rattle.definitions.proofs.RowLaws.{listed}

-- the source of a place's value, and its octets
abbrev pub held : Octets → List ℕ → ℕ → ℕ × List ℕ
held o rows k = ((value_at rows k).source, octets_at o (value_at rows k))

-- all of these numbers are below n
unfoldable Inside : ℕ → List ℕ → Type 0
Inside n [] = Unit
Inside n (k ∷ ks) = (k < n) × Inside n ks

below-inside : (n k : ℕ) (ks : List ℕ) → Inside n ks → Inside n (below k ks) × Inside n (not_below k ks)
unfolding Inside below not_below
below-inside n k [] h = (tt, tt)
below-inside n k (j ∷ ks) h = by (ltb j k) (below-inside n k ks h.1)
  where
    by : (b : Bool) → Inside n (below k ks) × Inside n (not_below k ks) → Inside n (pick b (j ∷ below k ks) (below k ks)) × Inside n (pick b (not_below k ks) (j ∷ not_below k ks))
    by true r = ((h.0, r.0), r.1)
    by false r = (r.0, (h.0, r.1))

added-inside : (m : Filled) (js : List ℕ) (l k n : ℕ) → k + n ≤ l → Inside l (added_from m js k n)
unfolding Inside added_from
added-inside m js l k zero h = tt
added-inside m js l k (suc n) h = by (present (value_at m.rows k) && not (among k js)) (added-inside m js l (suc k) n (omega arith))
  where
    by : (b : Bool) → Inside l (added_from m js (suc k) n) → Inside l (pick b (k ∷ added_from m js (suc k) n) (added_from m js (suc k) n))
    by true r = (omega arith, r)
    by false r = r

-- two ways to fill the places of a table, with the same held at each
module _ (t : List Row) (passes : first_bad t ≡ none) (rows rows' : List ℕ) (o o' : Octets) (same : (k : ℕ) → k < length t → held o rows k ≡ held o' rows' k) where
  abbrev m : Filled
  m = record { table = t; rows = rows; octets = o }

  abbrev m' : Filled
  m' = record { table = t; rows = rows'; octets = o' }

  same-element : (k i : ℕ) → k < length t → element_at m k i ≡ element_at m' k i
  unfolding element_at present
  same-element k i h = ap (λ (x : ℕ × List ℕ). pick (leb 1 x.0) (encoded (form (row_at t k)) i x.1) []) (same k h)

  pub same-unfit : unfit t o rows ≡ unfit t o' rows'
  unfolding unfit unfit_at present
  same-unfit =
      first-same (unfit_at t o rows) (unfit_at t o' rows') 0 (length t)
      (λ k a h. ap (λ (x : ℕ × List ℕ). leb 1 x.0 && not (fits (form (row_at t k)) x.0 x.1)) (same k (omega arith)))

  same-added : (js : List ℕ) (k n : ℕ) → k + n ≤ length t → added_from m js k n ≡ added_from m' js k n
  unfolding added_from present
  same-added js k zero h = refl
  same-added js k (suc n) h = rw (ap (λ (x : ℕ × List ℕ). x.0) (same k (omega arith)), same-added js (suc k) n (omega arith))

  same-firsts : (ks : List ℕ) → Inside (length t) ks → firsts m ks ≡ firsts m' ks
  unfolding firsts Inside
  same-firsts [] h = refl
  same-firsts (k ∷ ks) h = rw (same-element k (first_iei t k) h.0, same-firsts ks h.1)

  same-walked : (ps : List Placed) (added : List ℕ) (kept : List (List ℕ)) → Inside (length t) added → walked m ps added kept ≡ walked m' ps added kept
  unfolding walked
  same-walked [] added kept h = rw (same-firsts added h)
  same-walked (known_iei i ∷ ps) added kept h = by (place_of t i) refl (λ a g. same-walked ps a kept g)
    where
      by : (p : Option ℕ) → place_of t i ≡ p → ((a : List ℕ) → Inside (length t) a → walked m ps a kept ≡ walked m' ps a kept)
          → ◌≡◌ {A = List ℕ} (elim p [ none ↦ walked m ps added kept | some k ↦ firsts m (below k added) ++ (element_at m k i ++ walked m ps (not_below k added) kept) ])
          (elim p [ none ↦ walked m' ps added kept | some k ↦ firsts m' (below k added) ++ (element_at m' k i ++ walked m' ps (not_below k added) kept) ])
      by none e r = r added h
      by (some k) e r =
          let g = below-inside (length t) k added h in
          rw (same-firsts (below k added) g.0, same-element k i (listed t i k passes e).inside, r (not_below k added) g.1)
  same-walked (not_known ∷ ps) added [] h = same-walked ps added [] h
  same-walked (not_known ∷ ps) added (e ∷ kept) h = ap (λ (s : List ℕ). e ++ s) (same-walked ps added kept h)
  same-walked (ignored r ∷ ps) added [] h = same-walked ps added [] h
  same-walked (ignored r ∷ ps) added (e ∷ kept) h = ap (λ (s : List ℕ). e ++ s) (same-walked ps added kept h)

  pub same-written : (ps : List Placed) (kept : List (List ℕ)) → written m ps kept ≡ written m' ps kept
  unfolding written
  same-written ps kept =
      rw (same-added (logged t ps) 0 (length t) (omega arith)) (same-walked ps (added_from m' (logged t ps) 0 (length t)) kept (added-inside m' (logged t ps) (length t) 0 (length t) (omega arith)))
