-- One mandatory row, read and written: what it found lies within the octets, fits its form, and is written as it came.
-- By its form; a high half needs that the low half that waits is that of its own octet.
use Prim.Native.Nat.{ℕ, zero, suc, ◌+◌, ◌*◌, ◌/◌, ◌%◌, ◌≤◌, ◌<◌}
use native.Mathlib.Omega.{arith}
use mathlib.Core.Path.{◌≡◌, refl, ap}
use mathlib.Core.List.{List, [], ◌∷◌}
use mathlib.Core.Bool.{Bool, true, false, ◌&&◌, ◌||◌, not, false≢true}
use borrow.Author.Tests.{le-leb, eq-eqb, eqb-true, leb-true}
use lib.ListN.{length, get_or, take, drop}
use lib.Seq.{length-take-le}
use lib.Dec.{leb, eqb}
use Rattle.definitions.specs.Basic.{pick, most_kinds}
use Rattle.definitions.specs.Mandatory.{MandatoryForm, low_half, high_half, fixed_v, lv, lv-e, MandatoryRow, mandatory_form_of, mandatory_form, is_half, next_is, good_mandatory, Found, missing, truncated, value, behind, counted, found_by, low_bits, high_bits, fits_mandatory, encoded_row}
use Rattle.definitions.proofs.Octets.{number-two, number_short}
use Rattle.definitions.proofs.Mandatories.{found-lv, found-lv-e}
use Rattle.promises.specs.RoundTrip.{AreOctets}

-- a value of n octets behind h octets, of a row that consumes so many
pub record RowBack (f : MandatoryForm) (low : ℕ) (s : List ℕ) (h n took : ℕ) : Type 0 where
  pub there : h + n ≤ length s
  pub within : took ≤ length s
  pub fit : fits_mandatory f 1 (take n (drop h s)) ≡ true
  pub writes : encoded_row f low 1 (take n (drop h s)) ≡ take took s
  pub waits : f ≡ low_half → low_bits (get_or (take n (drop h s)) 0 0) ≡ get_or (drop took s) 0 0 % 16

abbrev BackOf : MandatoryForm → ℕ → List ℕ → Found → Type 0
BackOf f low s missing = Unit
BackOf f low s truncated = Unit
BackOf f low s (value h n took v) = RowBack f low s h n took

-- what is behind a field, where the row's own laws hold of a value that is there
by_length : (f : MandatoryForm) (low h n : ℕ) (s : List ℕ) → (h + n ≤ length s → RowBack f low s h n (h + n)) → BackOf f low s (behind h n s)
unfolding behind
by_length f low h n s r = go (leb (h + n) (length s)) refl
  where
    go : (b : Bool) → leb (h + n) (length s) ≡ b → BackOf f low s (pick b (value h n (h + n) (take n (drop h s))) truncated)
    go true e = r (leb-true (h + n) (length s) e)
    go false e = tt

module _ (low : ℕ) where
  fixed_back : (n : ℕ) (s : List ℕ) → BackOf (fixed_v n) low s (behind 0 n s)
  unfolding fits_mandatory encoded_row
  fixed_back n s =
      by_length (fixed_v n) low 0 n s
      (λ l.
      let e : 0 + n ≡ n = omega arith in
      record {
        there = l;
        within = l;
        fit = eq-eqb (length (take n s)) n (length-take-le n s (omega arith));
        writes = rw e;
        waits = λ q. let z : ◌≡◌ {A = ℕ} 0 1 = cc in absurd (omega arith);
      })

  lv-back : (x : ℕ) (s : List ℕ) → x < 256 → BackOf lv low (x ∷ s) (behind 1 x (x ∷ s))
  unfolding fits_mandatory encoded_row
  lv-back x s b =
      by_length lv low 1 x (x ∷ s)
      (λ l.
      let e : 1 + x ≡ suc x = omega arith in
      let k : length (take x s) ≡ x = length-take-le x s (omega arith) in
      record {
        there = l;
        within = l;
        fit = le-leb (length (take x s)) 255 (omega arith);
        writes = rw (k, e);
        waits = λ q. let z : ◌≡◌ {A = ℕ} 0 1 = cc in absurd (omega arith);
      })

  lv-e-back : (x y : ℕ) (s : List ℕ) → x < 256 → y < 256 → BackOf lv-e low (x ∷ y ∷ s) (behind 2 (x * 256 + y) (x ∷ y ∷ s))
  unfolding fits_mandatory encoded_row
  lv-e-back x y s a b =
      by_length lv-e low 2 (x * 256 + y) (x ∷ y ∷ s)
      (λ l.
      let n : ℕ = x * 256 + y in
      let e : 2 + n ≡ suc (suc n) = omega arith in
      let k : length (take n s) ≡ n = length-take-le n s (omega arith) in
      let p : n / 256 ≡ x = omega arith in
      let q : n % 256 ≡ y = omega arith in
      record {
        there = l;
        within = l;
        fit = le-leb (length (take n s)) 65535 (omega arith);
        writes = rw (k, e, p, q);
        waits = λ q. let z : ◌≡◌ {A = ℕ} 0 1 = cc in absurd (omega arith);
      })

  found_back : (f : MandatoryForm) (s : List ℕ) → AreOctets s → (f ≡ high_half → low ≡ get_or s 0 0 % 16) → BackOf f low s (found_by f s)
  unfolding found_by fits_mandatory encoded_row low_bits high_bits counted
  found_back f [] small w = tt
  found_back low_half (x ∷ s) small w = record { there = omega arith; within = omega arith; fit = refl; writes = refl; waits = λ q. refl }
  found_back high_half (x ∷ s) small w =
      let e : low ≡ x % 16 = w refl in
      record {
        there = omega arith;
        within = omega arith;
        fit = refl;
        writes = ap (λ (n : ℕ). n ∷ []) (omega arith);
        waits = λ q. let z : ◌≡◌ {A = ℕ} 0 1 = cc in absurd (omega arith);
      }
  found_back (fixed_v n) (x ∷ s) small w = fixed_back n (x ∷ s)
  found_back lv (x ∷ s) small w = rw (found-lv (x ∷ s) (omega arith)) (lv-back x s (small 0))
  found_back lv-e (x ∷ []) small w = rw (found-lv-e (x ∷ []) (omega arith), number_short 2 0 (x ∷ []) (omega arith)) tt
  found_back lv-e (x ∷ y ∷ s) small w = rw (found-lv-e (x ∷ y ∷ s) (omega arith), number-two 0 (x ∷ y ∷ s) (omega arith)) (lv-e-back x y s (small 0) (small 1))

pub row_back :
    (f : MandatoryForm) (low : ℕ) (s : List ℕ) → AreOctets s → (f ≡ high_half → low ≡ get_or s 0 0 % 16) → {h n took : ℕ} {v : List ℕ} → found_by f s ≡ value h n took v → RowBack f low s h n took
row_back f low s small w e = rw e at (found_back low f s small w)

-- ---- the check pairs a high half with the low half before it

last : (a b c d e f g h : Bool) → (a && (b && (c && (d && (e && (f && (g && h))))))) ≡ true → h ≡ true
last false b c d e f g h p = absurd (false≢true p)
last true false c d e f g h p = absurd (false≢true p)
last true true false d e f g h p = absurd (false≢true p)
last true true true false e f g h p = absurd (false≢true p)
last true true true true false f g h p = absurd (false≢true p)
last true true true true true false g h p = absurd (false≢true p)
last true true true true true true false h p = absurd (false≢true p)
last true true true true true true true h p = p

code-high : (c n : ℕ) → mandatory_form_of c n ≡ high_half → c ≡ 1
unfolding mandatory_form_of
code-high zero n e = let z : ◌≡◌ {A = ℕ} 0 1 = cc in absurd (omega arith)
code-high (suc zero) n e = refl
code-high (suc (suc zero)) n e = let z : ◌≡◌ {A = ℕ} 0 1 = cc in absurd (omega arith)
code-high (suc (suc (suc zero))) n e = let z : ◌≡◌ {A = ℕ} 0 1 = cc in absurd (omega arith)
code-high (suc (suc (suc (suc c)))) n e = let z : ◌≡◌ {A = ℕ} 0 1 = cc in absurd (omega arith)

pub after-low : (after : Bool) (r : MandatoryRow) (rs : List MandatoryRow) → good_mandatory after r rs ≡ true → mandatory_form r ≡ high_half → after ≡ true
unfolding good_mandatory mandatory_form
after-low after r rs g e =
    let p : (not (eqb r.code 1) || after) ≡ true =
    last (leb r.code 4) (not (eqb r.code 2) || (leb 1 r.size && leb r.size 255)) (leb r.least 65537) (not (is_half r) || eqb r.least 0)
    (leb 1 r.kinds) (leb r.kinds (most_kinds (is_half r))) (not (eqb r.code 0) || next_is 1 rs) (not (eqb r.code 1) || after) g in
    rw (code-high r.code r.size e) at p

pub form-low : (r : MandatoryRow) → eqb r.code 0 ≡ true → mandatory_form r ≡ low_half
unfolding mandatory_form mandatory_form_of
form-low r e = ap (λ (c : ℕ). mandatory_form_of c r.size) (eqb-true r.code 0 e)
