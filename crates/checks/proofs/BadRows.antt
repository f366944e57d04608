-- Checking the rows with their IEIs entered is the check of the definitions.
-- An entry is free exactly while its IEI was not used. By induction on the rows.
use Prim.Native.Nat.{ℕ, suc, ◌<◌}
use native.Mathlib.Omega.{arith}
use mathlib.Core.Path.{◌≡◌, refl, ap, sym, ◌∙◌}
use mathlib.Core.List.{List, [], ◌∷◌, ◌++◌}
use mathlib.Core.Bool.{Bool, true, false, ◌&&◌, ◌||◌, not, and_assoc}
use mathlib.Core.Option.{some}
use borrow.Author.Tests.{ne_eqb, leb-true, ltb-true}
use lib.ListN.{length, get_or, get_or-replicate}
use lib.Dec.{eqb, leb, ltb}
use Rattle.definitions.specs.Basic.{pick, among, most_kinds}
use Rattle.definitions.specs.Rows.{Row, of_half, ieis, good_iei, all_good, fresh, good_row, most_places, first_bad_from, first_bad, no_place}
use Rattle.definitions.proofs.RowLaws.{both}
use Rattle.indexing.specs.Marks.{blank, free, enter, enter_all, enters, mark_of, enter_row}
use Rattle.indexing.proofs.Marking.{all-length, entered}
use Rattle.checks.specs.Passes.{in_range, ieis_pass, passes, bad_from}

-- the entries that are free are those of the IEIs that were not used
pub record Marks (ix used : List ℕ) : Type 0 where
  pub size : length ix ≡ 256
  pub says : (x : ℕ) → x < 256 → free ix x ≡ not (among x used)

among-append : (x : ℕ) (a b : List ℕ) → among x (a ++ b) ≡ (among x a || among x b)
unfolding among
among-append x [] b = refl
among-append x (y ∷ a) b = go (eqb x y) (among-append x a b)
  where
    go : (e : Bool) → among x (a ++ b) ≡ (among x a || among x b) → (e || among x (a ++ b)) ≡ ((e || among x a) || among x b)
    go true h = refl
    go false h = h

free-after : (mark : ℕ) (is ix used : List ℕ) → mark < 255 → Marks ix used → Marks (enter_all mark is ix) (is ++ used)
free-after mark is ix used k m =
    record {
      size = all-length mark is ix ∙ m.size;
      says = λ x h.
          ap (λ (g : ℕ). eqb g no_place) (entered mark is ix x (omega (arith, m.size)))
          ∙ go x (among x is) (among x used) (free ix x) refl (m.says x h)
          ∙ sym (ap not (among-append x is used));
    }
  where
    go : (x : ℕ) (a u b : Bool) → free ix x ≡ b → b ≡ not u → eqb (pick (b && a) mark (get_or ix x 0)) no_place ≡ not (a || u)
    go x true true b p q = rw (q, p ∙ q)
    go x true false b p q = rw q (ne_eqb mark no_place (omega arith))
    go x false true b p q = rw q (p ∙ q)
    go x false false b p q = rw q (p ∙ q)

good-octet : (h : Bool) (i : ℕ) → good_iei h i ≡ true → i < 256
unfolding good_iei
good-octet true i g =
    let b = both (leb 128 i) _ g in
    let c = both (leb i 255) _ b.1 in
    omega (arith, leb-true i 255 c.0)
good-octet false i g = omega (arith, leb-true i 127 g)

pub enters-fresh : (h : Bool) (mark : ℕ) (is ix used : List ℕ) → mark < 255 → Marks ix used → enters h mark is ix ≡ (all_good h is && fresh used is)
unfolding enters all_good fresh enter_all
enters-fresh h mark [] ix used k m = refl
enters-fresh h mark (i ∷ is) ix used k m = go (good_iei h i) refl (enters-fresh h mark is (enter mark i ix) (i ∷ used) k (free-after mark (i ∷ []) ix used k m))
  where
    swap : (n a f : Bool) → (n && (a && f)) ≡ (a && (n && f))
    swap true true f = refl
    swap true false f = refl
    swap false true f = refl
    swap false false f = refl

    go : (g : Bool) → good_iei h i ≡ g → enters h mark is (enter mark i ix) ≡ (all_good h is && fresh (i ∷ used) is)
        → ((g && free ix i) && enters h mark is (enter mark i ix)) ≡ ((g && all_good h is) && (not (among i used) && fresh (i ∷ used) is))
    go false p e = refl
    go true p e =
        rw (m.says i (good-octet h i p), e)
        (swap (not (among i used)) (all_good h is) (fresh (i ∷ used) is))

row-passes : (k : ℕ) (r : Row) (ix used : List ℕ) → k < 128 → Marks ix used → passes k r ix ≡ good_row used r
unfolding passes in_range ieis_pass good_row
row-passes k r ix used h m =
    rw (enters-fresh (eqb r.code 0) (mark_of k) (ieis r) ix used (omega arith) m)
    (sort (leb 1 r.count) (leb r.count 4) (leb r.code 3) sized (leb r.least r.greatest && leb r.greatest 65538)
    (leb 1 r.kinds) (leb r.kinds (most_kinds (of_half r))) (all_good (eqb r.code 0) (ieis r) && fresh used (ieis r))
    ∙ ap (λ (x : Bool). leb 1 r.count && (leb r.count 4 && (leb r.code 3 && (sized && x)))) (and_assoc (leb r.least r.greatest) (leb r.greatest 65538) _))
  where
    sized : Bool
    sized = not (eqb r.code 1) || leb r.size 255

    front : (x a b h : Bool) → (x && (a && (b && h))) ≡ (a && (b && (x && h)))
    front true a b h = refl
    front false false b h = refl
    front false true false h = refl
    front false true true h = refl

    sort : (a b c d e f g h : Bool) → ((f && (g && (c && (d && e)))) && (a && (b && h))) ≡ (a && (b && (c && (d && (e && (f && (g && h)))))))
    sort a b c d e f g h =
        let y = c && (d && e) in
        let z = f && (g && h) in
        let l = and_assoc f (g && y) h ∙ ap (λ (x : Bool). f && x) (and_assoc g y h) in
        let r = and_assoc c (d && e) z ∙ ap (λ (x : Bool). c && x) (and_assoc d e z) in
        front (f && (g && y)) a b h ∙ ap (λ (x : Bool). a && (b && x)) (l ∙ sym (front y f g h) ∙ r)

bad-from : (k : ℕ) (ix used : List ℕ) (rs : List Row) → Marks ix used → bad_from k ix rs ≡ first_bad_from k used rs
unfolding bad_from first_bad_from
bad-from k ix used [] m = refl
bad-from k ix used (r ∷ rs) m = go (ltb k most_places) refl (bad-from (suc k) (enter_row k r ix) (ieis r ++ used) rs)
  where
    go : (b : Bool) → ltb k most_places ≡ b
        → (Marks (enter_row k r ix) (ieis r ++ used) → bad_from (suc k) (enter_row k r ix) rs ≡ first_bad_from (suc k) (ieis r ++ used) rs)
        → pick (b && passes k r ix) (bad_from (suc k) (enter_row k r ix) rs) (some k) ≡ pick (b && good_row used r) (first_bad_from (suc k) (ieis r ++ used) rs) (some k)
    go false p n = refl
    go true p n =
        let h : k < 128 = ltb-true k most_places p in
        rw (row-passes k r ix used h m, n (free-after (mark_of k) (ieis r) ix used (omega arith) m))

pub blank-marks : Marks blank []
unfolding among
blank-marks = record { size = refl; says = λ x h. ap (λ (g : ℕ). eqb g no_place) (get_or-replicate 256 x no_place 0 h) }

-- the first bad row
pub bad-rows : (rs : List Row) → bad_from 0 blank rs ≡ first_bad rs
unfolding first_bad
bad-rows rs = bad-from 0 blank [] rs blank-marks
