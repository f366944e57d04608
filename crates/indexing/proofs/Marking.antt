-- Entering the IEIs row by row is the index of the definitions.
-- The first row that lists an IEI has its entry. By induction on the rows.
use Prim.Native.Nat.{ℕ, suc, ◌≤◌, ◌<◌, min}
use native.Mathlib.Omega.{arith}
use mathlib.Core.Path.{◌≡◌, refl, ap, sym, ◌∙◌}
use mathlib.Core.List.{List, [], ◌∷◌}
use mathlib.Core.Bool.{Bool, true, false, ◌&&◌, ◌||◌}
use mathlib.Core.Option
use mathlib.Core.Option.{some}
use borrow.Author.Tests.{eqb-true, eqb-false}
use lib.ListN.{length, get_or, set, length-set, get_or-replicate}
use lib.Seq.{get_or-set_same, get_or-set_other, ext_get_or}
use lib.Dec.{eqb}
use Rattle.definitions.specs.Basic.{pick, among}
use Rattle.definitions.specs.Rows.{Row, ieis, place_from, place_of, no_place, index_entry, index}
use Rattle.definitions.proofs.TableLaws.{index-length, index_at}
use Rattle.indexing.specs.Marks.{blank, free, enter, enter_all, mark_of, enter_row, indexed}

-- ---- an entry after IEIs were entered

pub enter-length : (mark iei : ℕ) (ix : List ℕ) → length (enter mark iei ix) ≡ length ix
unfolding enter
enter-length mark iei ix = go (free ix iei)
  where
    go : (b : Bool) → length (pick b (set ix iei mark) ix) ≡ length ix
    go true = length-set ix iei mark
    go false = refl

pub all-length : (mark : ℕ) (is ix : List ℕ) → length (enter_all mark is ix) ≡ length ix
unfolding enter_all
all-length mark [] ix = refl
all-length mark (i ∷ is) ix = all-length mark is (enter mark i ix) ∙ enter-length mark i ix

-- one IEI: its own entry has the mark if it was free, every other is as it was
entry : (mark iei : ℕ) (ix : List ℕ) (x : ℕ) → x < length ix → get_or (enter mark iei ix) x 0 ≡ pick (free ix x && eqb x iei) mark (get_or ix x 0)
unfolding enter
entry mark iei ix x l = go (eqb x iei) (free ix x) (free ix iei) refl refl refl
  where
    go : (e b d : Bool) → eqb x iei ≡ e → free ix x ≡ b → free ix iei ≡ d → get_or (pick d (set ix iei mark) ix) x 0 ≡ pick (b && e) mark (get_or ix x 0)
    go true true true e p q = rw (← (eqb-true x iei e)) (get_or-set_same ix x mark 0 l)
    go true true false e p q = let r : free ix x ≡ false = rw (eqb-true x iei e) q in let z : true ≡ false = sym p ∙ r in cc
    go true false true e p q = let r : free ix x ≡ true = rw (eqb-true x iei e) q in let z : false ≡ true = sym p ∙ r in cc
    go true false false e p q = refl
    go false true true e p q = get_or-set_other ix iei x mark 0 (eqb-false x iei e)
    go false true false e p q = refl
    go false false true e p q = get_or-set_other ix iei x mark 0 (eqb-false x iei e)
    go false false false e p q = refl

-- several
pub entered : (mark : ℕ) (is ix : List ℕ) (x : ℕ) → x < length ix → get_or (enter_all mark is ix) x 0 ≡ pick (free ix x && among x is) mark (get_or ix x 0)
unfolding enter_all among
entered mark [] ix x l = go (free ix x)
  where
    go : (b : Bool) → get_or ix x 0 ≡ pick (b && false) mark (get_or ix x 0)
    go true = refl
    go false = refl
entered mark (i ∷ is) ix x l =
    entered mark is (enter mark i ix) x (rw (enter-length mark i ix) l)
    ∙ ap (λ (g : ℕ). pick (eqb g no_place && among x is) mark g) (entry mark i ix x l)
    ∙ go (free ix x) (eqb x i) (among x is) refl
  where
    same : (a : Bool) → pick a mark mark ≡ mark
    same true = refl
    same false = refl

    go : (b e a : Bool) → free ix x ≡ b
        → pick (eqb (pick (b && e) mark (get_or ix x 0)) no_place && a) mark (pick (b && e) mark (get_or ix x 0)) ≡ pick (b && (e || a)) mark (get_or ix x 0)
    go true true a p = same (eqb mark no_place && a)
    go true false a p = rw p
    go false true a p = rw p
    go false false a p = rw p

-- ---- the index

pub indexed-length : (k : ℕ) (ix : List ℕ) (rs : List Row) → length (indexed k ix rs) ≡ length ix
unfolding indexed
indexed-length k ix [] = refl
indexed-length k ix (r ∷ rs) = indexed-length (suc k) (enter_row k r ix) rs ∙ all-length (mark_of k) (ieis r) ix

-- a place from 255 on counts as none
high : (k : ℕ) (rs : List Row) (x : ℕ) → 255 ≤ k → min no_place (Option.get_or (place_from k rs x) no_place) ≡ 255
unfolding place_from
high k [] x h = refl
high k (r ∷ rs) x h = go (among x (ieis r)) (high (suc k) rs x (omega arith))
  where
    go : (a : Bool) → min no_place (Option.get_or (place_from (suc k) rs x) no_place) ≡ 255 → min no_place (Option.get_or (pick a (some k) (place_from (suc k) rs x)) no_place) ≡ 255
    go true e = omega arith
    go false e = e

indexed-entry : (k : ℕ) (ix : List ℕ) (rs : List Row) (x : ℕ) → x < length ix
    → get_or (indexed k ix rs) x 0 ≡ pick (free ix x) (min no_place (Option.get_or (place_from k rs x) no_place)) (get_or ix x 0)
unfolding indexed place_from
indexed-entry k ix [] x l = go (free ix x) refl
  where
    go : (b : Bool) → free ix x ≡ b → get_or ix x 0 ≡ pick b 255 (get_or ix x 0)
    go true p = eqb-true (get_or ix x 0) 255 p
    go false p = refl
indexed-entry k ix (r ∷ rs) x l =
    indexed-entry (suc k) (enter_row k r ix) rs x (rw (all-length (mark_of k) (ieis r) ix) l)
    ∙ ap (λ (g : ℕ). pick (eqb g no_place) (min no_place (Option.get_or (place_from (suc k) rs x) no_place)) g) (entered (mark_of k) (ieis r) ix x l)
    ∙ go (free ix x) (among x (ieis r)) refl
  where
    first : (c : Bool) → eqb (mark_of k) no_place ≡ c → pick c (min no_place (Option.get_or (place_from (suc k) rs x) no_place)) (mark_of k) ≡ mark_of k
    first true p = let q : mark_of k ≡ 255 = eqb-true (mark_of k) no_place p in high (suc k) rs x (omega arith) ∙ sym q
    first false p = refl

    go : (b a : Bool) → free ix x ≡ b
        → pick (eqb (pick (b && a) (mark_of k) (get_or ix x 0)) no_place) (min no_place (Option.get_or (place_from (suc k) rs x) no_place)) (pick (b && a) (mark_of k) (get_or ix x 0))
        ≡ pick b (min no_place (Option.get_or (pick a (some k) (place_from (suc k) rs x)) no_place)) (get_or ix x 0)
    go true true p = first (eqb (mark_of k) no_place) refl
    go true false p = rw p
    go false true p = rw p
    go false false p = rw p

-- the index of every table
pub indexed-rows : (rs : List Row) → indexed 0 blank rs ≡ index rs
unfolding index_entry place_of
indexed-rows rs =
    let l : length (indexed 0 blank rs) ≡ 256 = indexed-length 0 blank rs in
    ext_get_or 0 (indexed 0 blank rs) (index rs) (l ∙ sym (index-length rs))
    λ x h.
    let u : x < 256 = omega arith in
    indexed-entry 0 blank rs x u
    ∙ ap (λ (g : ℕ). pick (eqb g no_place) (min no_place (Option.get_or (place_from 0 rs x) no_place)) g) (get_or-replicate 256 x no_place 0 u)
    ∙ sym (index_at rs x 0 u)
