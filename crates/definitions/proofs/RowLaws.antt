-- What the check of a table gives of the place of an IEI: it is in the table, and its form is a half octet exactly from 0x80 up.
-- By induction on the rows: the row that lists the IEI passed, so each IEI of its own did.
use Prim.Native.Nat.{ℕ, zero, suc, ◌+◌, ◌%◌, ◌≤◌, ◌<◌}
use native.Mathlib.Omega.{arith}
use mathlib.Core.Path.{◌≡◌, refl, ap, sym, ◌∙◌}
use mathlib.Core.List.{List, [], ◌∷◌, ◌++◌}
use mathlib.Core.Option.{none, some}
use mathlib.Core.Bool.{Bool, true, false, ◌&&◌, ◌||◌, not, and-eq-true_iff, false≢true}
use lib.ListN.{length}
use lib.Dec.{leb, ltb, eqb, eqb-suc-zero}
use borrow.Author.Tests.{eqb-true, leb-true, not-true}
use Rattle.definitions.specs.Basic.{pick, among, most_kinds}
use Rattle.definitions.specs.Rows.{Row, Form, half, fixed, tlv, tlv-e, form, form_of, of_half, ieis, good_iei, all_good, fresh, good_row, most_places, first_bad_from, first_bad, place_from, place_of, row_at}

-- an IEI that stands in a row of a form
abbrev pub Bears : Form → ℕ → Type 0
Bears half iei = (128 ≤ iei) × (iei ≤ 255) × (iei % 16 ≡ 0)
Bears (fixed n) iei = iei ≤ 127
Bears tlv iei = iei ≤ 127
Bears tlv-e iei = iei ≤ 127

pub both : (a b : Bool) → (a && b) ≡ true → (a ≡ true) × (b ≡ true)
both a b = (and-eq-true_iff a b).0

bears : (c n iei : ℕ) → good_iei (eqb c 0) iei ≡ true → Bears (form_of c n) iei
unfolding good_iei form_of
bears zero n iei h =
    let b = both (leb 128 iei) (leb iei 255 && eqb (iei % 16) 0) h in
    let c = both (leb iei 255) (eqb (iei % 16) 0) b.1 in
    (leb-true 128 iei b.0, leb-true iei 255 c.0, eqb-true (iei % 16) 0 c.1)
bears (suc zero) n iei h = leb-true iei 127 h
bears (suc (suc zero)) n iei h = leb-true iei 127 h
bears (suc (suc (suc c))) n iei h = leb-true iei 127 (rw (eqb-suc-zero (suc (suc c))) at h)

good_of : (h : Bool) (iei : ℕ) (is : List ℕ) → all_good h is ≡ true → among iei is ≡ true → good_iei h iei ≡ true
unfolding all_good among
good_of h iei [] g a = cc
good_of h iei (i ∷ is) g a = go (eqb iei i) refl a (good_of h iei is g'.1)
  where
    g' : (good_iei h i ≡ true) × (all_good h is ≡ true)
    g' = both (good_iei h i) (all_good h is) g

    go : (b : Bool) → eqb iei i ≡ b → (b || among iei is) ≡ true → (among iei is ≡ true → good_iei h iei ≡ true) → good_iei h iei ≡ true
    go true e a r = rw (eqb-true iei i e) g'.0
    go false e a r = r a

row-good : (used : List ℕ) (r : Row) → good_row used r ≡ true → (all_good (eqb r.code 0) (ieis r) ≡ true) × (fresh used (ieis r) ≡ true)
unfolding good_row
row-good used r h =
    ninth (leb 1 r.count) (leb r.count 4) (leb r.code 3) (not (eqb r.code 1) || leb r.size 255) (leb r.least r.greatest)
    (leb r.greatest 65538) (leb 1 r.kinds) (leb r.kinds (most_kinds (of_half r))) (all_good (eqb r.code 0) (ieis r)) (fresh used (ieis r)) h
  where
    ninth : (a b c d e f g h i j : Bool) → (a && (b && (c && (d && (e && (f && (g && (h && (i && j))))))))) ≡ true → (i ≡ true) × (j ≡ true)
    ninth false b c d e f g h i j q = absurd (false≢true q)
    ninth true false c d e f g h i j q = absurd (false≢true q)
    ninth true true false d e f g h i j q = absurd (false≢true q)
    ninth true true true false e f g h i j q = absurd (false≢true q)
    ninth true true true true false f g h i j q = absurd (false≢true q)
    ninth true true true true true false g h i j q = absurd (false≢true q)
    ninth true true true true true true false h i j q = absurd (false≢true q)
    ninth true true true true true true true false i j q = absurd (false≢true q)
    ninth true true true true true true true true i j q = both i j q

-- the place of an IEI, in a table that passes the check
pub record Listed (t : List Row) (iei k : ℕ) : Type 0 where
  pub inside : k < length t
  pub formed : Bears (form (row_at t k)) iei

listed-from : (j : ℕ) (used : List ℕ) (t : List Row) (iei k : ℕ) → first_bad_from j used t ≡ none → place_from j t iei ≡ some k → (i : ℕ) × (k ≡ j + i) × Listed t iei i
unfolding first_bad_from place_from form row_at
listed-from j used [] iei k p q = let z : ◌≡◌ {A = ℕ} 0 1 = cc in absurd (omega arith)
listed-from j used (r ∷ rs) iei k p q = go (ltb j most_places && good_row used r) (among iei (ieis r)) refl refl p q
    (λ p q. let h = listed-from (suc j) (ieis r ++ used) rs iei k p q in (suc h.0, omega arith, record { inside = omega (arith, h.2.inside); formed = h.2.formed }))
  where
    R : Type 0
    R = (i : ℕ) × (k ≡ j + i) × Listed (r ∷ rs) iei i

    go : (b c : Bool) → (ltb j most_places && good_row used r) ≡ b → among iei (ieis r) ≡ c → pick b (first_bad_from (suc j) (ieis r ++ used) rs) (some j) ≡ none
        → pick c (some j) (place_from (suc j) rs iei) ≡ some k → (first_bad_from (suc j) (ieis r ++ used) rs ≡ none → place_from (suc j) rs iei ≡ some k → R) → R
    go false c e d p q n = let z : ◌≡◌ {A = ℕ} 0 1 = cc in absurd (omega arith)
    go true false e d p q n = n p q
    go true true e d p q n = (0, (let z : j ≡ k = cc in omega arith), record { inside = omega arith; formed = bears r.code r.size iei (good_of (eqb r.code 0) iei (ieis r) (row-good used r (both (ltb j most_places) (good_row used r) e).1).0 d) })

pub listed : (t : List Row) (iei k : ℕ) → first_bad t ≡ none → place_of t iei ≡ some k → Listed t iei k
unfolding first_bad place_of
listed t iei k p q = let h = listed-from 0 [] t iei k p q in let e : k ≡ h.0 = omega arith in rw e h.2

-- what the check of a row gives: it lists an IEI and has a kind, and each IEI that it lists is one of its form
pub record Passes (r : Row) : Type 0 where
  pub listing : 1 ≤ r.count
  pub kind : 1 ≤ r.kinds
  pub each : (iei : ℕ) → among iei (ieis r) ≡ true → Bears (form r) iei

row-passes : (used : List ℕ) (r : Row) → good_row used r ≡ true → Passes r
unfolding good_row form
row-passes used r h =
    by (leb 1 r.count) (leb r.count 4) (leb r.code 3) (not (eqb r.code 1) || leb r.size 255) (leb r.least r.greatest)
    (leb r.greatest 65538) (leb 1 r.kinds) (leb r.kinds (most_kinds (of_half r)) && (all_good (eqb r.code 0) (ieis r) && fresh used (ieis r))) refl refl h
  where
    by : (a b c d e f g z : Bool) → leb 1 r.count ≡ a → leb 1 r.kinds ≡ g → (a && (b && (c && (d && (e && (f && (g && z))))))) ≡ true → Passes r
    by false b c d e f g z p q x = absurd (false≢true x)
    by true false c d e f g z p q x = absurd (false≢true x)
    by true true false d e f g z p q x = absurd (false≢true x)
    by true true true false e f g z p q x = absurd (false≢true x)
    by true true true true false f g z p q x = absurd (false≢true x)
    by true true true true true false g z p q x = absurd (false≢true x)
    by true true true true true true false z p q x = absurd (false≢true x)
    by true true true true true true true z p q x =
        record {
          listing = leb-true 1 r.count p;
          kind = leb-true 1 r.kinds q;
          each = λ iei a. bears r.code r.size iei (good_of (eqb r.code 0) iei (ieis r) (row-good used r h).0 a);
        }

passes-from : (j : ℕ) (used : List ℕ) (t : List Row) (k : ℕ) → first_bad_from j used t ≡ none → k < length t → Passes (row_at t k)
unfolding first_bad_from row_at
passes-from j used [] k p h = absurd (omega arith)
passes-from j used (r ∷ rs) k p h = go (ltb j most_places && good_row used r) refl p k h (passes-from (suc j) (ieis r ++ used) rs)
  where
    go : (b : Bool) → (ltb j most_places && good_row used r) ≡ b → pick b (first_bad_from (suc j) (ieis r ++ used) rs) (some j) ≡ none → (k : ℕ) → k < length (r ∷ rs)
        → ((k : ℕ) → first_bad_from (suc j) (ieis r ++ used) rs ≡ none → k < length rs → Passes (row_at rs k)) → Passes (row_at (r ∷ rs) k)
    go false e p k h n = let z : ◌≡◌ {A = ℕ} 0 1 = cc in absurd (omega arith)
    go true e p zero h n = row-passes used r (both (ltb j most_places) (good_row used r) e).1
    go true e p (suc k) h n = n k p (omega arith)

-- each row of a table that passes
pub passes : (t : List Row) (k : ℕ) → first_bad t ≡ none → k < length t → Passes (row_at t k)
unfolding first_bad
passes t k p h = passes-from 0 [] t k p h

-- ---- an IEI has one row

fresh-of : (used is : List ℕ) (x : ℕ) → fresh used is ≡ true → among x is ≡ true → among x used ≡ false
unfolding fresh among
fresh-of used [] x f a = cc
fresh-of used (i ∷ is) x f a = go (eqb x i) refl a (fresh-of (i ∷ used) is x b.1)
  where
    b : (not (among i used) ≡ true) × (fresh (i ∷ used) is ≡ true)
    b = both (not (among i used)) (fresh (i ∷ used) is) f

    go : (c : Bool) → eqb x i ≡ c → (c || among x is) ≡ true → (among x is ≡ true → (eqb x i || among x used) ≡ false) → among x used ≡ false
    go true e a n = rw (eqb-true x i e) (not-true (among i used) b.0)
    go false e a n = rw e at (n a)

not-append : (x : ℕ) (a b : List ℕ) → among x (a ++ b) ≡ false → (among x a ≡ false) × (among x b ≡ false)
unfolding among
not-append x [] b h = (refl, h)
not-append x (y ∷ a) b h = go (eqb x y) h (not-append x a b)
  where
    go : (c : Bool) → (c || among x (a ++ b)) ≡ false → (among x (a ++ b) ≡ false → (among x a ≡ false) × (among x b ≡ false)) → ((c || among x a) ≡ false) × (among x b ≡ false)
    go true h n = absurd (false≢true (sym h))
    go false h n = n h

-- what the check of the rows from j on gives of an IEI that row k of them lists: none before them did, and it has that place
placed-from : (j : ℕ) (used : List ℕ) (t : List Row) (k x : ℕ) → first_bad_from j used t ≡ none → k < length t → among x (ieis (row_at t k)) ≡ true
    → (among x used ≡ false) × (place_from j t x ≡ some (j + k))
unfolding first_bad_from row_at place_from
placed-from j used [] k x p h a = absurd (omega arith)
placed-from j used (r ∷ rs) k x p h a = go (ltb j most_places && good_row used r) refl p k h a (placed-from (suc j) (ieis r ++ used) rs)
  where
    go : (b : Bool) → (ltb j most_places && good_row used r) ≡ b → pick b (first_bad_from (suc j) (ieis r ++ used) rs) (some j) ≡ none → (k : ℕ) → k < length (r ∷ rs)
        → among x (ieis (row_at (r ∷ rs) k)) ≡ true
        → ((k x : ℕ) → first_bad_from (suc j) (ieis r ++ used) rs ≡ none → k < length rs → among x (ieis (row_at rs k)) ≡ true
        → (among x (ieis r ++ used) ≡ false) × (place_from (suc j) rs x ≡ some (suc j + k)))
        → (among x used ≡ false) × (place_from j (r ∷ rs) x ≡ some (j + k))
    go false e p k h a n = let z : ◌≡◌ {A = ℕ} 0 1 = cc in absurd (omega arith)
    go true e p zero h a n =
        let z : j ≡ j + 0 = omega arith in
        (fresh-of used (ieis r) x (row-good used r (both (ltb j most_places) (good_row used r) e).1).1 a, rw a (ap some z))
    go true e p (suc k) h a n =
        let i = n k x p (omega arith) a in
        let u = not-append x (ieis r) used i.0 in
        let z : suc j + k ≡ j + suc k = omega arith in
        (u.1, rw (u.0, i.1) (ap some z))

-- each IEI that a row of a table that passes lists has that row's place
pub placed_at : (t : List Row) (k x : ℕ) → first_bad t ≡ none → k < length t → among x (ieis (row_at t k)) ≡ true → place_of t x ≡ some k
unfolding first_bad place_of
placed_at t k x p h a = let z : 0 + k ≡ k = omega arith in (placed-from 0 [] t k x p h a).1 ∙ ap some z
