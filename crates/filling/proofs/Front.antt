-- Every element entered into rows of which the first n numbers hold its row: what is behind these stays as it was, so that rows found
-- among zeros and copied out are those of the cleared rows. By induction on the elements that stand in the part.
use Prim.Native.Nat.{ℕ, zero, suc, ◌+◌, ◌*◌, ◌-◌, ◌≤◌}
use native.Mathlib.Omega.{arith}
use mathlib.Core.Path.{◌≡◌, refl, ap, sym, ◌∙◌}
use mathlib.Core.List.{List, [], ◌∷◌, ◌++◌, append_assoc}
use mathlib.Core.Bool.{Bool, true}
use mathlib.Core.Option.{Option, some}
use lib.ListN.{length, take, drop, replicate, length-drop, length-replicate}
use lib.Seq.{take-append-le, drop-append-le, take-append_seam}
use Rattle.definitions.specs.Basic.{over, over_at}
use Rattle.definitions.specs.Rows.{Row}
use Rattle.definitions.specs.Elements.{Verdict, accepted, unknown, malformed, repeated, out_of_sequence, is_accepted, Element, iei_at, Met, elements, parted}
use Rattle.definitions.proofs.Lists.{length-over_at}
use Rattle.definitions.proofs.Steps.{Stands, Reads, end, more, reads}
use Rattle.elements.specs.Steps.{element_of, place_of, placed_for}
use Rattle.plain_reading.specs.Entered.{row_by, row_entered, entered_all}
use Rattle.filling.proofs.Filling.{Placing, Places}

pub over_first : (k : ℕ) (s a b : List ℕ) → k + length s ≤ length a → over_at k s (a ++ b) ≡ over_at k s a ++ b
unfolding over_at over
over_first k s a b h =
    rw (take-append-le k a b (omega arith), drop-append-le k a b (omega arith), drop-append-le (length s) (drop k a) b (simp length-drop (omega arith))) (simp append_assoc)

module _ (t : List Row) (n start : ℕ) (option : Bool) (places : Places t n start option) (b : List ℕ) where
  -- one element, and all
  record Front (x y a : List ℕ) : Type 0 where
    is : x ≡ y ++ b
    long : length y ≡ length a

  row-front : {m m' : Met} {at : ℕ} {s : List ℕ} (e : Element) → Stands t start option m at s e m' → (a : List ℕ) → n ≤ length a
      → Front (row_entered t (element_of e) (a ++ b)) (row_entered t (element_of e) a) a
  unfolding row_entered element_of is_accepted
  row-front e d a h = by e.verdict e.place (iei_at e) (λ g. let f : Placing t n e = places _ _ _ _ e d g in (f.place, f.has, f.inside))
    where
      by : (v : Verdict) (o : Option ℕ) (iei : ℕ) → (is_accepted v ≡ true → (k : ℕ) × (o ≡ some k) × (4 * k + 4 ≤ n))
          → Front (row_by t (place_of o) e.at (length e.octets) (a ++ b) (placed_for iei v)) (row_by t (place_of o) e.at (length e.octets) a (placed_for iei v)) a
      by accepted o iei f =
          let g = f refl in
          rw g.1 (record { is = over_first (4 * g.0) (1 ∷ _ ∷ _ ∷ iei ∷ []) a b (omega (arith, g.2)); long = length-over_at (4 * g.0) (1 ∷ _ ∷ _ ∷ iei ∷ []) a (omega (arith, g.2)) })
      by unknown o iei f = record { is = refl; long = refl }
      by malformed o iei f = record { is = refl; long = refl }
      by repeated o iei f = record { is = refl; long = refl }
      by out_of_sequence o iei f = record { is = refl; long = refl }

  all-front : {m : Met} {at : ℕ} {s : List ℕ} {es : List Element} → Reads t start option m at s es → (a : List ℕ) → n ≤ length a → Front (entered_all t es (a ++ b)) (entered_all t es a) a
  unfolding entered_all
  all-front end a h = record { is = refl; long = refl }
  all-front (more {e = e} {es = es} d r) a h =
      let f : Front (row_entered t (element_of e) (a ++ b)) (row_entered t (element_of e) a) a = row-front e d a h in
      let g : Front (entered_all t es (row_entered t (element_of e) a ++ b)) (entered_all t es (row_entered t (element_of e) a)) (row_entered t (element_of e) a) = all-front r (row_entered t (element_of e) a) (omega (arith, f.long)) in
      record { is = ap (entered_all t es) f.is ∙ g.is; long = g.long ∙ f.long }

  entered-front : (part : List ℕ) (es : List Element) → parted t start option part ≡ elements es → (a : List ℕ) → n ≤ length a → Front (entered_all t es (a ++ b)) (entered_all t es a) a
  entered-front part es e a h = all-front (reads t start option e) a h

-- ---- copied out

abbrev zeros : ℕ → List ℕ
zeros n = replicate n 0

zeros-split : (n w : ℕ) → n ≤ w → zeros w ≡ zeros n ++ zeros (w - n)
zeros-split zero w h = let z : w ≡ w - 0 = omega arith in ap (λ (m : ℕ). zeros m) z
zeros-split (suc n) zero h = absurd (omega arith)
zeros-split (suc n) (suc w) h = let z : w - n ≡ suc w - suc n = omega arith in ap (λ (x : List ℕ). 0 ∷ x) (zeros-split n w (omega arith) ∙ ap (λ (m : ℕ). zeros n ++ zeros m) z)

module _ (t : List Row) (start : ℕ) (option : Bool) (part : List ℕ) (w n : ℕ) (fits : n ≤ w) (places : Places t n start option) (es : List Element) (d : parted t start option part ≡ elements es) where
  -- the rows found among zeros are those of the cleared rows
  pub rows-copied : (rows : List ℕ) {found rows' : List ℕ} → found ≡ entered_all t es (zeros w) → rows' ≡ over (take n found) rows → rows' ≡ entered_all t es (over (zeros n) rows)
  unfolding over
  rows-copied rows {found = found} e a =
      let z : length (zeros n) ≡ n = length-replicate n 0 in
      let f : Front t n start option places (zeros (w - n)) (entered_all t es (zeros n ++ zeros (w - n))) (entered_all t es (zeros n)) (zeros n) =
      entered-front t n start option places (zeros (w - n)) part es d (zeros n) (omega arith) in
      let g : Front t n start option places (drop (length (zeros n)) rows) (entered_all t es (zeros n ++ drop (length (zeros n)) rows)) (entered_all t es (zeros n)) (zeros n) =
      entered-front t n start option places (drop (length (zeros n)) rows) part es d (zeros n) (omega arith) in
      let q : take n found ≡ entered_all t es (zeros n) =
      ap (take n) (e ∙ ap (entered_all t es) (zeros-split n w fits) ∙ f.is) ∙ ap (λ (m : ℕ). take m (entered_all t es (zeros n) ++ zeros (w - n))) (sym (f.long ∙ z)) ∙ take-append_seam (entered_all t es (zeros n)) (zeros (w - n)) in
      a ∙ ap (λ (x : List ℕ). x ++ drop (length x) rows) q ∙ ap (λ (m : ℕ). entered_all t es (zeros n) ++ drop m rows) f.long ∙ sym g.is
