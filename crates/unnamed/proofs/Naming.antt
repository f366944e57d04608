-- An order log an entry on, places one on, the elements of places that are not named, and the names by the test of the rows.
-- Each by the first octet or by one place; those of several places by induction on how many.
use Prim.Native.Nat.{ℕ, zero, suc, ◌+◌, ◌-◌, ◌≤◌, ◌<◌}
use native.Mathlib.Omega.{arith}
use native.Mathlib.Numerals.{add-one}
use mathlib.Core.Path.{◌≡◌, refl, ap, ◌∙◌}
use mathlib.Core.List.{List, [], ◌∷◌, append-nil}
use mathlib.Core.Bool.{Bool, true, false, not, ◌&&◌, false≢true}
use mathlib.Core.Option.{Option, none, some}
use borrow.Author.Tests.{eq-eqb, ne_eqb, lt-ltb, le-ltb, le-leb}
use lib.ListN.{length, get_or, drop, drop_of_length-le}
use lib.Seq.{drop-cons}
use lib.Dec.{eqb, ltb, leb}
use Rattle.std.specs.List.{list_all, range_with_len}
use Rattle.definitions.specs.Basic.{pick, bit}
use Rattle.definitions.specs.Rows.{place_in}
use Rattle.definitions.specs.Values.{Octets, value_at, present, good_value}
use Rattle.definitions.proofs.BitLaws.{no-bit}
use Rattle.definitions.proofs.RowLaws.{both}
use Rattle.rows.specs.Numbers.{numbers_at}
use Rattle.seen.specs.Seen.{including_place}
use Rattle.placing.specs.Pieces.{Lent, joined, judged, piece_by, ranged}
use Rattle.unnamed.specs.Named.{with_iei, named, falls_from, names, unnamed_piece, unnamed, bare}

-- ---- the log

-- an octet on
octet : (order : List ℕ) (at : ℕ) → at < length order → drop at order ≡ get_or order at 0 ∷ drop (at + 1) order
octet order at h = rw (drop-cons order at 0 h, add-one at)

-- with the place of an IEI
module _ (ix : List ℕ) (i set : ℕ) where
  pub with-place : {o : Option ℕ} → place_in ix i ≡ o → with_iei ix i set ≡ elim o [ none ↦ set | some k ↦ including_place k set ]
  unfolding with_iei
  with-place e = ap (λ (x : Option ℕ). elim x [ none ↦ set | some k ↦ including_place k set ]) e

module _ (ix : List ℕ) (set : ℕ) where
  other : (x : ℕ) (s : List ℕ) → 0 < x → named ix set (x ∷ s) ≡ named ix set s
  unfolding named
  other zero s h = absurd (omega arith)
  other (suc x) s h = refl

  iei : (x i : ℕ) (s : List ℕ) → x ≡ 0 → named ix set (x ∷ i ∷ s) ≡ named ix (with_iei ix i set) s
  unfolding named
  iei zero i s h = refl
  iei (suc x) i s h = absurd (omega arith)

  alone : (x : ℕ) → x ≡ 0 → named ix set (x ∷ []) ≡ set
  unfolding named
  alone zero h = refl
  alone (suc x) h = absurd (omega arith)

  module _ (order : List ℕ) (at : ℕ) where
    pub named_other : at < length order → 0 < get_or order at 0 → named ix set (drop at order) ≡ named ix set (drop (at + 1) order)
    named_other h p = ap (named ix set) (octet order at h) ∙ other (get_or order at 0) (drop (at + 1) order) p

    pub named-iei : at + 1 < length order → get_or order at 0 ≡ 0 → named ix set (drop at order) ≡ named ix (with_iei ix (get_or order (at + 1) 0) set) (drop (at + 2) order)
    named-iei h e =
        let z : (at + 1) + 1 ≡ at + 2 = omega arith in
        let d : drop (at + 1) order ≡ get_or order (at + 1) 0 ∷ drop (at + 2) order = rw z at (octet order (at + 1) h) in
        ap (named ix set) (octet order at (omega arith) ∙ ap (λ (s : List ℕ). get_or order at 0 ∷ s) d) ∙ iei (get_or order at 0) (get_or order (at + 1) 0) (drop (at + 2) order) e

    pub named-alone : at + 1 ≡ length order → get_or order at 0 ≡ 0 → named ix set (drop at order) ≡ set
    named-alone h e = ap (named ix set) (octet order at (omega arith) ∙ ap (λ (s : List ℕ). get_or order at 0 ∷ s) (drop_of_length-le order {i = at + 1} (omega arith))) ∙ alone (get_or order at 0) e

    pub named-over : length order ≤ at → named ix set (drop at order) ≡ set
    unfolding named
    named-over h = ap (named ix set) (drop_of_length-le order h)

-- ---- places one on

module _ (rows : List ℕ) (k to high : ℕ) (h : k < to) where
  falls-next : falls_from rows k (to - k) high
      ≡ pick (eqb (value_at rows k).source 1) (pick (ltb (value_at rows k).start high) true (falls_from rows (k + 1) (to - (k + 1)) (value_at rows k).start)) (falls_from rows (k + 1) (to - (k + 1)) high)
  unfolding falls_from
  falls-next = let z : to - k ≡ suc (to - (k + 1)) = omega arith in rw (z, add-one)

  pub falls-here : (value_at rows k).source ≡ 1 → (value_at rows k).start < high → falls_from rows k (to - k) high ≡ true
  falls-here e l = falls-next ∙ rw (eq-eqb (value_at rows k).source 1 e, lt-ltb (value_at rows k).start high l)

  pub falls-on : (value_at rows k).source ≡ 1 → high ≤ (value_at rows k).start → falls_from rows k (to - k) high ≡ falls_from rows (k + 1) (to - (k + 1)) (value_at rows k).start
  falls-on e l = falls-next ∙ rw (eq-eqb (value_at rows k).source 1 e, le-ltb (value_at rows k).start high l)

  pub falls-past : ((value_at rows k).source ≡ 1 → ⊥) → falls_from rows k (to - k) high ≡ falls_from rows (k + 1) (to - (k + 1)) high
  falls-past n = falls-next ∙ rw (ne_eqb (value_at rows k).source 1 n)

pub falls-over : (rows : List ℕ) (k to high : ℕ) → to ≤ k → falls_from rows k (to - k) high ≡ false
unfolding falls_from
falls-over rows k to high h = let z : to - k ≡ 0 = omega arith in rw z

-- a bare row, as it is tested
abbrev pub bare_row : Octets → List ℕ → ℕ → Bool
bare_row o rows k = eqb (value_at rows k).source 0 && good_value o (value_at rows k)

absent : (source : ℕ) → eqb source 0 ≡ not (leb 1 source)
absent zero = refl
absent (suc n) = rw (ne_eqb (suc n) 0 (omega arith), le-leb 1 (suc n) (omega arith))

pub all-bare : (o : Octets) (rows : List ℕ) (n k : ℕ) → list_all (bare_row o rows) (range_with_len k n) ≡ bare o rows k n
unfolding bare present
all-bare o rows zero k = refl
all-bare o rows (suc n) k = rw (absent (value_at rows k).source) (ap (λ (b : Bool). (not (leb 1 (value_at rows k).source) && good_value o (value_at rows k)) && b) (all-bare o rows n (k + 1) ∙ ap (λ (i : ℕ). bare o rows i n) (add-one k)))

-- ---- elements

joined-first : (x : Option (List ℕ)) → joined (some []) x ≡ x
unfolding joined
joined-first none = refl
joined-first (some s) = refl

pub joined-last : (x : Option (List ℕ)) → joined x (some []) ≡ x
unfolding joined
joined-last none = refl
joined-last (some s) = ap some (append-nil s)

module _ (m : Lent) (set : ℕ) where
  pub unnamed-next : (k to : ℕ) → k < to → unnamed m set k (to - k) ≡ joined (unnamed_piece m set k) (unnamed m set (k + 1) (to - (k + 1)))
  unfolding unnamed
  unnamed-next k to h = let z : to - k ≡ suc (to - (k + 1)) = omega arith in rw (z, add-one)

  pub unnamed-over : (k to : ℕ) → to ≤ k → unnamed m set k (to - k) ≡ some []
  unfolding unnamed
  unnamed-over k to h = let z : to - k ≡ 0 = omega arith in rw z

  -- a place that is named
  pub unnamed-past : (k to : ℕ) → k < to → bit k set ≡ true → unnamed m set k (to - k) ≡ unnamed m set (k + 1) (to - (k + 1))
  unfolding unnamed_piece
  unnamed-past k to h e = unnamed-next k to h ∙ rw e (joined-first (unnamed m set (k + 1) (to - (k + 1))))

  -- and one that is not
  pub unnamed_here : (k to : ℕ) → k < to → bit k set ≡ false → unnamed m set k (to - k) ≡ joined (ranged m k ((k + 1) - k)) (unnamed m set (k + 1) (to - (k + 1)))
  unfolding unnamed_piece ranged
  unnamed_here k to h e =
      let z : (k + 1) - k ≡ 1 = omega arith in
      unnamed-next k to h ∙ rw (e, z, joined-last (piece_by m k (numbers_at m.table k).first))

  -- a place that is bare
  bare-piece : (k : ℕ) → (not (present (value_at m.rows k)) && good_value m.octets (value_at m.rows k)) ≡ true → unnamed_piece m set k ≡ some []
  unfolding unnamed_piece piece_by judged
  bare-piece k e = by (bit k set) (present (value_at m.rows k)) refl (good_value m.octets (value_at m.rows k)) refl e
    where
      by : (b p : Bool) → present (value_at m.rows k) ≡ p → (g : Bool) → good_value m.octets (value_at m.rows k) ≡ g → (not p && g) ≡ true → pick b (some []) (piece_by m k (numbers_at m.table k).first) ≡ some []
      by true p x g y f = refl
      by false true x g y f = absurd (false≢true f)
      by false false x false y f = absurd (false≢true f)
      by false false x true y f = rw (y, x)

  pub bare-unnamed : (n k : ℕ) → bare m.octets m.rows k n ≡ true → unnamed m set k n ≡ some []
  unfolding unnamed bare
  bare-unnamed zero k e = refl
  bare-unnamed (suc n) k e =
      let w = both (not (present (value_at m.rows k)) && good_value m.octets (value_at m.rows k)) (bare m.octets m.rows (suc k) n) e in
      rw (bare-piece k w.0, bare-unnamed n (suc k) w.1) (joined-first (some []))

-- ---- the names

pub names-by : (ix rows order : List ℕ) (n : ℕ) {b : Bool} → falls_from rows 0 n 0 ≡ b → names ix rows order n ≡ pick b (named ix 0 order) 0
unfolding names
names-by ix rows order n e = ap (λ (b : Bool). pick b (named ix 0 order) 0) e

-- an empty log has none, and none leaves every place
pub names-empty : (ix rows : List ℕ) (n : ℕ) → names ix rows [] n ≡ 0
unfolding names named
names-empty ix rows n = by (falls_from rows 0 n 0)
  where
    by : (b : Bool) → ◌≡◌ {A = ℕ} (pick b 0 0) 0
    by true = refl
    by false = refl

pub none_named : (m : Lent) (n k : ℕ) → unnamed m 0 k n ≡ ranged m k n
unfolding unnamed unnamed_piece ranged
none_named m zero k = refl
none_named m (suc n) k = rw (no-bit k, none_named m n (suc k))
