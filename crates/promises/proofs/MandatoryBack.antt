-- What was read row by row, written again row by row: the octets as they came, and each row passes the tests of writing.
-- By induction on what was found.
use Prim.Native.Nat.{ℕ, zero, suc, ◌+◌, ◌*◌, ◌-◌, ◌%◌, ◌≤◌}
use native.Mathlib.Omega.{arith}
use mathlib.Core.Path.{◌≡◌, refl, ap, sym, ◌∙◌}
use mathlib.Core.List.{List, [], ◌∷◌, ◌++◌, append_assoc}
use mathlib.Core.Bool.{Bool, true, false, ◌&&◌, not}
use mathlib.Core.Option.{none, some}
use borrow.Author.Tests.{le-leb}
use lib.ListN.{length, get_or, take, drop, length-append, length-drop}
use lib.Seq.{get_or-append-add, get_or-drop, drop-drop, take-add}
use lib.Dec.{ltb, eqb}
use Rattle.definitions.specs.Basic.{pick}
use Rattle.definitions.specs.Mandatory.{MandatoryRow, mandatory_row_at, mandatory_form, good_mandatory, most_mandatory, first_bad_mandatory_from, low_bits, fits_mandatory, rows_written}
use Rattle.definitions.specs.Values.{Octets, mandatory_width, value_in, present, source_of, octets_at, good_value, first_from}
use Rattle.definitions.proofs.RowLaws.{both}
use Rattle.promises.specs.RoundTrip.{AreOctets}
use Rattle.promises.proofs.MandatoryReads.{Finds, nothing, one}
use Rattle.promises.proofs.MandatoryRows.{RowBack, row_back, after-low, form-low}

row_at : (t : List MandatoryRow) (k : ℕ) {r : MandatoryRow} {rs : List MandatoryRow} → drop k t ≡ r ∷ rs → (mandatory_row_at t k ≡ r) × (drop (suc k) t ≡ rs)
unfolding mandatory_row_at
row_at [] zero e = let z : ◌≡◌ {A = ℕ} 0 1 = cc in absurd (omega arith)
row_at [] (suc k) e = let z : ◌≡◌ {A = ℕ} 0 1 = cc in absurd (omega arith)
row_at (r ∷ t) zero e = (cc, cc)
row_at (r ∷ t) (suc k) e = row_at t k e

-- a row's three numbers, behind those of the rows before it
value-at : (pre rest : List ℕ) (k a b c : ℕ) → length pre ≡ 3 * k → value_in mandatory_width (pre ++ (a ∷ b ∷ c ∷ rest)) k ≡ record { source = a; start = b; size = c; iei = 0 }
unfolding value_in
value-at pre rest k a b c l =
    let t : List ℕ = a ∷ b ∷ c ∷ rest in
    let z₀ : 3 * k ≡ length pre + 0 = omega arith in
    let z₁ : 3 * k + 1 ≡ length pre + 1 = omega arith in
    let z₂ : 3 * k + 2 ≡ length pre + 2 = omega arith in
    let x : get_or (pre ++ t) (3 * k) 0 ≡ a = ap (λ (m : ℕ). get_or (pre ++ t) m 0) z₀ ∙ get_or-append-add pre t 0 0 in
    let y : get_or (pre ++ t) (3 * k + 1) 0 ≡ b = ap (λ (m : ℕ). get_or (pre ++ t) m 0) z₁ ∙ get_or-append-add pre t 1 0 in
    let w : get_or (pre ++ t) (3 * k + 2) 0 ≡ c = ap (λ (m : ℕ). get_or (pre ++ t) m 0) z₂ ∙ get_or-append-add pre t 2 0 in
    rw (x, y, w)

-- the tests of writing
module _ (part set rows : List ℕ) (t : List MandatoryRow) where
  abbrev pub octets : Octets
  octets = record { received = part; set = set }

  abbrev pub bad : ℕ → Bool
  bad j = not (good_value octets (value_in mandatory_width rows j))

  abbrev pub gone : ℕ → Bool
  gone j = not (present (value_in mandatory_width rows j))

  abbrev pub unfit : ℕ → Bool
  unfit j = not (fits_mandatory (mandatory_form (mandatory_row_at t j)) (value_in mandatory_width rows j).source (octets_at octets (value_in mandatory_width rows j)))

  -- the rows from k on: written, they are the octets up to where they ended, and each passes the tests
  pub record Back (k at low : ℕ) (rs : List MandatoryRow) (s : List ℕ) (read : ℕ) : Type 0 where
    pub reach : at ≤ read
    pub end : read ≤ length part
    pub writes : rows_written octets rows k low rs ≡ take (read - at) s
    pub none-bad : first_from bad k (length rs) ≡ none
    pub none-gone : first_from gone k (length rs) ≡ none
    pub none-unfit : first_from unfit k (length rs) ≡ none

  -- a received value that lies within the part
  module _ (k at h n : ℕ) (s : List ℕ) (e : value_in mandatory_width rows k ≡ record { source = 1; start = at + h; size = n; iei = 0 }) (d : s ≡ drop at part) where
    octets-are : octets_at octets (value_in mandatory_width rows k) ≡ take n (drop h s)
    unfolding octets_at source_of
    octets-are = rw (e, d) (ap (take n) (sym (drop-drop h at part)))

    is-good : h + n ≤ length s → at ≤ length part → bad k ≡ false
    unfolding good_value present source_of
    is-good l w =
        let f : at + h + n ≤ length part = omega (arith, ap length d ∙ length-drop at part) in
        rw (e, le-leb (at + h + n) (length part) f)

    is-there : gone k ≡ false
    unfolding present
    is-there = rw e

  pub back :
      AreOctets part → {at read : ℕ} {rs : List MandatoryRow} {s left : List ℕ} → Finds at rs s left read → (k low : ℕ) (after : Bool) (pre post : List ℕ) → rows ≡ pre ++ (left ++ post)
      → length pre ≡ 3 * k → drop k t ≡ rs → s ≡ drop at part → at ≤ length part → first_bad_mandatory_from k after rs ≡ none → (after ≡ true → low ≡ get_or s 0 0 % 16)
      → Back k at low rs s read
  unfolding rows_written first_from first_bad_mandatory_from
  back small {at = at} nothing k low after pre post q l d e w p a =
      let z : at - at ≡ 0 = omega arith in
      record { reach = omega arith; end = w; writes = rw z; none-bad = refl; none-gone = refl; none-unfit = refl }
  back small {at = at} {read = read} {s = s} (one {h = h} {n = n} {took = took} {r = r} {rs = rs} {left = left} f g) k low after pre post q l d e w p a =
      let v : value_in mandatory_width rows k ≡ record { source = 1; start = at + h; size = n; iei = 0 } = rw q (value-at pre (left ++ post) k 1 (at + h) n l) in
      let c = row_at t k d in
      let m : (ltb k most_mandatory && good_mandatory after r rs) ≡ true = passing (ltb k most_mandatory && good_mandatory after r rs) p in
      let b : RowBack (mandatory_form r) low s h n took = row_back (mandatory_form r) low s (octets-of s e) (λ j. a (after-low after r rs (both (ltb k most_mandatory) (good_mandatory after r rs) m).1 j)) f in
      let o : octets_at octets (value_in mandatory_width rows k) ≡ take n (drop h s) = octets-are k at h n s v e in
      let x : drop took s ≡ drop (at + took) part = ap (drop took) e ∙ drop-drop took at part in
      let y : at + took ≤ length part = omega (arith, b.within, ap length e ∙ length-drop at part) in
      let u : rows ≡ (pre ++ (1 ∷ (at + h) ∷ n ∷ [])) ++ (left ++ post) = q ∙ sym (append_assoc pre (1 ∷ (at + h) ∷ n ∷ []) (left ++ post)) in
      let i =
      back small g (suc k) (low_bits (get_or (octets_at octets (value_in mandatory_width rows k)) 0 0)) (eqb r.code 0) (pre ++ (1 ∷ (at + h) ∷ n ∷ [])) post u (length-append pre (1 ∷ (at + h) ∷ n ∷ []) ∙ omega arith) c.1 x y (rw m at p)
      (λ z. rw o (b.waits (form-low r z))) in
      let sum : took + (read - (at + took)) ≡ read - at = omega (arith, i.reach) in
      let fit : unfit k ≡ false = rw (o, c.0, v) (ap not b.fit) in
      record {
        reach = omega (arith, i.reach);
        end = i.end;
        writes = rw (i.writes, o, v, b.writes) (sym (take-add took (read - (at + took)) s) ∙ ap (λ (n : ℕ). take n s) sum);
        none-bad = rw (is-good k at h n s v e b.there w) i.none-bad;
        none-gone = rw (is-there k at h n s v e) i.none-gone;
        none-unfit = rw fit i.none-unfit;
      }
    where
      passing : (b : Bool) → pick b (first_bad_mandatory_from (suc k) (eqb r.code 0) rs) (some k) ≡ none → b ≡ true
      passing true e = refl
      passing false e = let z : ◌≡◌ {A = ℕ} 0 1 = cc in absurd (omega arith)

      octets-of : (s : List ℕ) → s ≡ drop at part → AreOctets s
      octets-of s e i = rw (e, get_or-drop at part i 0) (small (at + i))
