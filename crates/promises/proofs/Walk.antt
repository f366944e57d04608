-- Writing what reading left gives back the octets of the elements. With an order log each entry writes its element, and no
-- place is added; without one the present places, ascending, are the elements. Both by induction on the elements.
use Prim.Native.Nat.{ℕ, zero, suc, ◌+◌, ◌≤◌, ◌<◌}
use native.Mathlib.Omega.{arith}
use mathlib.Core.Path.{◌≡◌, refl, sym, ◌∙◌}
use mathlib.Core.List.{List, [], ◌∷◌, ◌++◌, map}
use mathlib.Core.Option.{Option, none, some}
use mathlib.Core.Bool.{Bool, true, false, ◌&&◌, ◌||◌, not, true≢false}
use lib.ListN.{length, get_or}
use lib.Dec.{eqb}
use borrow.Author.Tests.{le-leb, eqb-true, eqb-false, eq-eqb, ne_eqb}
use Rattle.definitions.specs.Basic.{pick, bit, among, concat}
use Rattle.definitions.specs.Rows.{Row, iei_of, place_of, first_iei}
use Rattle.definitions.specs.Elements.{Verdict, accepted, unknown, malformed, repeated, out_of_sequence, Element, is_accepted, is_at, iei_at}
use Rattle.definitions.specs.Logs.{Placed, known_iei, placed_of, plain_from, iei_for, plain_at}
use Rattle.definitions.specs.Reading.{received, place_row}
use Rattle.definitions.specs.Values.{Octets, value_at, present, good_value}
use Rattle.definitions.specs.Writing.{Filled, element_at, logged, added_from, below, not_below, firsts, walked}
use Rattle.definitions.proofs.LogLaws.{aside_of}
use Rattle.definitions.proofs.RowLaws.{both}
use Rattle.definitions.proofs.PlainLaws.{plain-said}
use Rattle.promises.specs.Joined.{joined}
use Rattle.promises.proofs.Rows.{as_value, Sane, whole-sane, whole-written, element, Told, over-all, aside, taken_in, not_in}

module _ (t : List Row) (log : List Placed) (part set : List ℕ) where
  abbrev sources : Octets
  sources = record { received = part; set = set }

  -- every row of a place is in order
  pub rows-sane : {n : ℕ} {es : List Element} → Told t part n es → (k : ℕ) → Sane t sources k (as_value (place_row t log es k))
  unfolding place_row good_value present is_accepted is_at received
  rows-sane over-all k = (refl, refl)
  rows-sane (aside {p = p} {v = v} {es = es} h g r) k = rw h (rows-sane r k)
  rows-sane (taken_in {at = at} {k = j} {o = o} {es = es} h w r) k = go (eqb j k) refl (rows-sane r k)
    where
      go : (b : Bool) → eqb j k ≡ b → Sane t sources k (as_value (place_row t log es k)) → Sane t sources k (as_value (pick b (received t (iei_for t log k) k (element at o (some j) accepted)) (place_row t log es k)))
      go true e r = rw (sym (eqb-true j k e)) (whole-sane t part set at o (iei_of (get_or o 0 0)) j w (iei_for t log j))
      go false e r = r

-- ---- with an order log

module _ (t : List Row) (log : List Placed) (part : List ℕ) where
  skip : (at : ℕ) (o : List ℕ) (p : Option ℕ) (v : Verdict) (ps : List Placed) → is_accepted v ≡ false → logged t (placed_of (element at o p v) ∷ ps) ≡ logged t ps
  unfolding logged placed_of is_accepted
  skip at o p accepted ps h = absurd (true≢false h)
  skip at o p unknown ps h = refl
  skip at o p malformed ps h = refl
  skip at o p repeated ps h = refl
  skip at o p out_of_sequence ps h = refl

  logged-known : (i k : ℕ) (ps : List Placed) → place_of t i ≡ some k → logged t (known_iei i ∷ ps) ≡ k ∷ logged t ps
  unfolding logged
  logged-known i k ps e = rw (e, logged)

  -- a place with a row is one of the order log
  pub present-logged : {n : ℕ} {es : List Element} → Told t part n es → (k : ℕ) → present (as_value (place_row t log es k)) ≡ true → among k (logged t (map placed_of es)) ≡ true
  unfolding place_row present is_accepted is_at logged placed_of among iei_at
  present-logged over-all k q = cc
  present-logged (aside {at = at} {o = o} {p = p} {v = v} {es = es} h g r) k q = rw (skip at o p v (map placed_of es) h) (present-logged r k (rw h at q))
  present-logged (taken_in {at = at} {k = j} {o = o} {es = es} h w r) k q = rw (logged-known (iei_of (get_or o 0 0)) j (map placed_of es) w.listed) (go (eqb j k) (eqb k j) refl refl q (λ q. present-logged r k q))
    where
      go : (b c : Bool) → eqb j k ≡ b → eqb k j ≡ c → present (as_value (pick b (received t (iei_for t log k) k (element at o (some j) accepted)) (place_row t log es k))) ≡ true
          → (present (as_value (place_row t log es k)) ≡ true → among k (logged t (map placed_of es)) ≡ true) → (c || among k (logged t (map placed_of es))) ≡ true
      go b true e d q r = refl
      go true false e d q r = absurd (eqb-false k j d (sym (eqb-true j k e)))
      go false false e d q r = r q

  abbrev pub filled : List ℕ → List ℕ → Filled
  filled set rows = record { table = t; rows = rows; octets = record { received = part; set = set } }

  -- so none is added
  pub none-added : (set rows js : List ℕ) → ((k : ℕ) → k < length t → present (value_at rows k) ≡ true → among k js ≡ true) → (k n : ℕ) → k + n ≤ length t → added_from (filled set rows) js k n ≡ []
  unfolding added_from
  none-added set rows js h k zero l = refl
  none-added set rows js h k (suc n) l =
      let r = none-added set rows js h (suc k) n (omega arith) in
      rw (skipped (present (value_at rows k)) (among k js) (h k (omega arith)), r)
    where
      skipped : (a b : Bool) → (a ≡ true → b ≡ true) → (a && not b) ≡ false
      skipped true true h = refl
      skipped true false h = sym (h refl)
      skipped false b h = refl

  walked-known : (m : Filled) (i k : ℕ) (ps : List Placed) (added : List ℕ) (kept : List (List ℕ)) → place_of m.table i ≡ some k
      → walked m (known_iei i ∷ ps) added kept ≡ firsts m (below k added) ++ (element_at m k i ++ walked m ps (not_below k added) kept)
  unfolding walked
  walked-known m i k ps added kept e = rw (e, walked)

  walked-aside : (m : Filled) (at : ℕ) (o : List ℕ) (p : Option ℕ) (v : Verdict) (ps : List Placed) (kept : List (List ℕ)) → is_accepted v ≡ false
      → walked m (placed_of (element at o p v) ∷ ps) [] (pick (is_accepted v) kept (o ∷ kept)) ≡ o ++ walked m ps [] kept
  unfolding walked placed_of is_accepted
  walked-aside m at o p accepted ps kept h = absurd (true≢false h)
  walked-aside m at o p unknown ps kept h = refl
  walked-aside m at o p malformed ps kept h = refl
  walked-aside m at o p repeated ps kept h = refl
  walked-aside m at o p out_of_sequence ps kept h = refl

  -- the row of an accepted element's place, and the rows of the others
  row_here : (j at : ℕ) (o : List ℕ) (es : List Element) → place_row t log (element at o (some j) accepted ∷ es) j ≡ received t (iei_for t log j) j (element at o (some j) accepted)
  unfolding place_row is_accepted is_at
  row_here j at o es = rw (eq-eqb j j refl)

  row-there : (j k at : ℕ) (o : List ℕ) (es : List Element) → (j ≡ k → ⊥) → place_row t log (element at o (some j) accepted ∷ es) k ≡ place_row t log es k
  unfolding place_row is_accepted is_at
  row-there j k at o es d = rw (ne_eqb j k d)

  row-aside : (k at : ℕ) (o : List ℕ) (p : Option ℕ) (v : Verdict) (es : List Element) → is_accepted v ≡ false → place_row t log (element at o p v ∷ es) k ≡ place_row t log es k
  unfolding place_row
  row-aside k at o p v es h = rw h

  -- each entry writes its element
  pub walk-entries : (set rows : List ℕ) {n : ℕ} {es : List Element} → Told t part n es
      → ((k : ℕ) → k < length t → bit k n ≡ false → value_at rows k ≡ as_value (place_row t log es k)) → walked (filled set rows) (map placed_of es) [] (aside_of es) ≡ joined es
  unfolding walked aside_of joined concat firsts placed_of iei_at is_accepted received below not_below
  walk-entries set rows over-all e = refl
  walk-entries set rows (aside {at = at} {o = o} {p = p} {v = v} {es = es} h g r) e =
      let i = walk-entries set rows r (λ k l b. rw (row-aside k at o p v es h) at (e k l (g k b))) in
      rw (walked-aside (filled set rows) at o p v (map placed_of es) (aside_of es) h, i)
  walk-entries set rows (taken_in {n = n} {at = at} {k = j} {o = o} {es = es} h w r) e =
      let i = walk-entries set rows r (λ k l b. let c = not_in k j n b in rw (row-there j k at o es (λ d. eqb-false k j c.0 (sym d))) at (e k l c.1)) in
      let a = whole-written t part set at o (iei_of (get_or o 0 0)) j w rows (iei_for t log j) (rw (row_here j at o es) at (e j w.inside h)) in
      rw (walked-known (filled set rows) (iei_of (get_or o 0 0)) j (map placed_of es) [] (aside_of es) w.listed, a, i)

  -- ---- without one

  -- what an accepted element says where every element is accepted, in table order, under first IEIs
  plain-first : (least at j : ℕ) (o : List ℕ) (es : List Element) → plain_from t least (element at o (some j) accepted ∷ es) ≡ true
      → (least ≤ j) × (iei_of (get_or o 0 0) ≡ first_iei t j) × (plain_from t (suc j) es ≡ true)
  unfolding plain_from iei_at
  plain-first least at j o es h =
      let e : Element = element at o (some j) accepted in
      let a = both (plain_at t least j e) (plain_from t (suc j) es) h in
      let f = plain-said t least j e a.0 in
      (f.above, f.first, a.1)

  plain-aside : (least at : ℕ) (o : List ℕ) (p : Option ℕ) (v : Verdict) (es : List Element) → is_accepted v ≡ false → plain_from t least (element at o p v ∷ es) ≡ true → ⊥
  unfolding plain_from plain_at
  plain-aside least at o none v es h q = true≢false (sym q)
  plain-aside least at o (some k) v es h q = true≢false (sym (rw h at q))

  -- none is kept
  pub plain-kept : {n : ℕ} {es : List Element} → Told t part n es → (least : ℕ) → plain_from t least es ≡ true → aside_of es ≡ []
  unfolding aside_of is_accepted
  plain-kept over-all least q = refl
  plain-kept (aside {at = at} {o = o} {p = p} {v = v} {es = es} h g r) least q = absurd (plain-aside least at o p v es h q)
  plain-kept (taken_in {at = at} {k = j} {o = o} {es = es} h w r) least q = plain-kept r (suc j) (plain-first least at j o es q).2

  -- no place below the least has a row
  plain-none : {n : ℕ} {es : List Element} → Told t part n es → (least k : ℕ) → plain_from t least es ≡ true → k < least → present (as_value (place_row t log es k)) ≡ false
  unfolding present place_row
  plain-none over-all least k q l = refl
  plain-none (aside {at = at} {o = o} {p = p} {v = v} {es = es} h g r) least k q l = absurd (plain-aside least at o p v es h q)
  plain-none (taken_in {at = at} {k = j} {o = o} {es = es} h w r) least k q l =
      let f = plain-first least at j o es q in
      rw (row-there j k at o es (omega arith)) (plain-none r (suc j) k f.2 (omega arith))

  abbrev pub plainly : List ℕ → List ℕ → ℕ → ℕ → List ℕ
  plainly set rows j n = firsts (filled set rows) (added_from (filled set rows) [] j n)

  added-here : (set rows : List ℕ) (j n : ℕ) → present (value_at rows j) ≡ true → plainly set rows j (suc n) ≡ element_at (filled set rows) j (first_iei t j) ++ plainly set rows (suc j) n
  unfolding added_from firsts among
  added-here set rows j n h = rw h

  added-later : (set rows : List ℕ) (j n : ℕ) → present (value_at rows j) ≡ false → plainly set rows j (suc n) ≡ plainly set rows (suc j) n
  unfolding added_from firsts among
  added-later set rows j n h = rw h

  plain-again : (least later at j : ℕ) (o : List ℕ) (es : List Element) → later ≤ j → plain_from t least (element at o (some j) accepted ∷ es) ≡ true
      → plain_from t later (element at o (some j) accepted ∷ es) ≡ true
  unfolding plain_from plain_at is_accepted iei_at
  plain-again least later at j o es l h = let f = plain-first least at j o es h in rw (le-leb later j l, eq-eqb (iei_of (get_or o 0 0)) (first_iei t j) f.1) f.2

  -- the c places from j on write the elements from there on
  pub walk-plain : (set rows : List ℕ) (c : ℕ) {n : ℕ} {es : List Element} → Told t part n es → (j : ℕ) → plain_from t j es ≡ true → j + c ≡ length t
      → ((k : ℕ) → j ≤ k → k < length t → value_at rows k ≡ as_value (place_row t log es k)) → plainly set rows j c ≡ joined es
  unfolding added_from firsts joined place_row present received plain_from
  walk-plain set rows zero over-all j q l e = refl
  walk-plain set rows zero (aside {at = at} {o = o} {p = p} {v = v} {es = es} h g r) j q l e = absurd (plain-aside j at o p v es h q)
  walk-plain set rows zero (taken_in {at = at} {k = k} {o = o} {es = es} h w r) j q l e = absurd (omega (arith, (plain-first j at k o es q).0, w.inside))
  walk-plain set rows (suc c) over-all j q l e =
      added-later set rows j c (rw (e j (omega arith) (omega arith))) ∙ walk-plain set rows c {n = 0} over-all (suc j) q (omega arith) (λ k a b. e k (omega arith) b)
  walk-plain set rows (suc c) (aside {at = at} {o = o} {p = p} {v = v} {es = es} h g r) j q l e = absurd (plain-aside j at o p v es h q)
  walk-plain set rows (suc c) (taken_in {at = at} {k = k} {o = o} {es = es} h w r) j q l e =
      go (eqb k j) refl
      (λ d. walk-plain set rows c r (suc j) (rw d at f.2) (omega arith) (λ i a b. rw (row-there k i at o es (omega arith)) at (e i (omega arith) b)))
      (λ d. walk-plain set rows c (taken_in h w r) (suc j) (plain-again j (suc j) at k o es d q) (omega arith) (λ i a b. e i (omega arith) b))
    where
      f : (j ≤ k) × (iei_of (get_or o 0 0) ≡ first_iei t k) × (plain_from t (suc k) es ≡ true)
      f = plain-first j at k o es q

      v : value_at rows k ≡ as_value (received t (iei_for t log k) k (element at o (some k) accepted))
      v = rw (row_here k at o es) at (e k f.0 w.inside)

      w' : element_at (filled set rows) k (first_iei t k) ≡ o
      w' = rw f.1 at (whole-written t part set at o (iei_of (get_or o 0 0)) k w rows (iei_for t log k) v)

      go : (b : Bool) → eqb k j ≡ b → (k ≡ j → plainly set rows (suc j) c ≡ joined es) → (j < k → plainly set rows (suc j) c ≡ o ++ joined es)
          → plainly set rows j (suc c) ≡ o ++ joined es
      go true b here later =
          let d : k ≡ j = eqb-true k j b in
          let p : present (value_at rows k) ≡ true = rw v in
          let a : plainly set rows k (suc c) ≡ element_at (filled set rows) k (first_iei t k) ++ plainly set rows (suc k) c = added-here set rows k c p in
          let b : plainly set rows (suc k) c ≡ joined es = rw d (here d) in
          rw (sym d) (a ∙ rw (w', b))
      go false b here later =
          let d : k ≡ j → ⊥ = eqb-false k j b in
          let n : present (value_at rows j) ≡ false = rw (e j (omega arith) (omega (arith, w.inside, f.0))) (plain-none (taken_in h w r) (suc j) j (plain-again j (suc j) at k o es (omega (arith, f.0)) q) (omega arith)) in
          added-later set rows j c n ∙ later (omega (arith, f.0))
