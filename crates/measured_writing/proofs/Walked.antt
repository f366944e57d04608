-- What a walk writes of a message whose values fit: its pieces, one behind the other, are all that is left to write, so it is all written where
-- there is room. By induction on the octets of the order log, each entry by its first octet.
use Prim.Native.Nat.{ℕ, zero, suc, ◌+◌, ◌-◌, ◌≤◌, ◌<◌, ◌%◌}
use native.Mathlib.Omega.{arith}
use mathlib.Core.Path.{◌≡◌, refl, ap, ap₂, sym, ◌∙◌}
use mathlib.Core.List.{List, [], ◌∷◌, ◌++◌, append-nil}
use mathlib.Core.Bool.{Bool, true, false, ◌&&◌, not}
use mathlib.Core.Option.{Option, none, some, none-ne-some}
use borrow.Author.Tests.{le-leb, ltb-true, ltb-false, not-false}
use lib.ListN.{length, drop}
use lib.Dec.{ltb}
use Rattle.definitions.specs.Basic.{pick, bit, over, over_at, concat}
use Rattle.definitions.specs.Rows.{Row, Form, half, fixed, tlv, tlv-e, rows_of, row_at, form, first_iei, first_bad, place_of, index}
use Rattle.definitions.specs.Values.{Octets, value_at, present, octets_at, fits, unfit_at}
use Rattle.definitions.specs.Logs.{Placed, known_iei, put, kept_list, order_entry, order_list}
use Rattle.definitions.specs.Writing.{Filled, encoded, element_at, firsts}
use Rattle.definitions.proofs.RowLaws.{Bears, listed}
use Rattle.definitions.proofs.TableLaws.{first-bears, index_same}
use Rattle.definitions.proofs.Orders.{order_front, order_by, order-nil, order-front, aside_by, front-aside, front-over}
use Rattle.definitions.proofs.LogSteps.{put_is, rest_of}
use Rattle.rows.specs.Numbers.{numbers_at}
use Rattle.rows.proofs.WholeRows.{whole-rows}
use Rattle.values.specs.Rows.{sources_of}
use Rattle.putting.specs.Puts.{addable, writable}
use Rattle.placing.specs.Pieces.{Lent, lent_of}
use Rattle.walking.specs.Walks.{element_by, added_piece as added_piece_by, added_by, next_of as next_by, known_by, place_after as place_by, pieces_by, elements_from, Laid, Lays}
use Rattle.walking.proofs.Laying.{laid-all, concat-append}
use Rattle.walking.proofs.Elements.{elements-are}
use Rattle.walking.proofs.Runs.{known-nowhere, known_at, pieces_end}
use Rattle.measured_writing.specs.Added.{filled_of, added_in, added_octets}
use Rattle.measured_writing.proofs.Asides.{aside-cases, aside-octet}
use Rattle.measured_writing.proofs.Cursor.{added_piece, next_of, known_piece, known_place, left_of, added-step, left_step, place_inside, Passed, left-unknown, left-ignored, left_end}

-- a table that passes, and values that fit
pub record Writable (table rows received set : List ℕ) : Type 0 where
  pub passes : first_bad (rows_of table) ≡ none
  pub fit : (k : ℕ) → k < length (rows_of table) → unfit_at (rows_of table) (sources_of received set) rows k ≡ false

never : (order : List ℕ) {ps : List Placed} → order_list order ≡ some ps → order_list order ≡ none → ⊥
never order e f = none-ne-some _ (sym f ∙ e)

-- ---- the elements

-- an IEI of a form takes the bits of a half octet, and is an octet
addable-bears : (f : Form) (iei : ℕ) → Bears f iei → addable f iei ≡ true
unfolding addable
addable-bears half iei b = le-leb iei 240 (omega (arith, b.1, b.2))
addable-bears (fixed n) iei b = refl
addable-bears tlv iei b = refl
addable-bears tlv-e iei b = refl

bears-octet : (f : Form) (iei : ℕ) → Bears f iei → iei < 256
bears-octet half iei b = omega (arith, b.1)
bears-octet (fixed n) iei b = omega arith
bears-octet tlv iei b = omega arith
bears-octet tlv-e iei b = omega arith

module _ (table rows received set : List ℕ) (w : Writable table rows received set) (s : ℕ) where
  abbrev t : List Row
  t = rows_of table

  abbrev n : ℕ
  n = length t

  abbrev F : Filled
  F = filled_of table rows received set

  abbrev m : Lent
  m = lent_of table rows received set

  abbrev o : Octets
  o = sources_of received set

  element-is : (k iei : ℕ) → k < n → Bears (form (row_at t k)) iei → element_by m k iei ≡ element_at F k iei
  unfolding element_by element_at unfit_at writable form
  element-is k iei h b =
      let r = whole-rows table w.passes in
      rw (r.code k, r.size k) (by (present (value_at rows k)) refl (w.fit k h))
    where
      by : (p : Bool) → present (value_at rows k) ≡ p → (p && not (fits (form (row_at t k)) (value_at rows k).source (octets_at o (value_at rows k)))) ≡ false
          → pick (p && (fits (form (row_at t k)) (value_at rows k).source (octets_at o (value_at rows k)) && addable (form (row_at t k)) iei)) (encoded (form (row_at t k)) iei (octets_at o (value_at rows k))) []
          ≡ pick p (encoded (form (row_at t k)) iei (octets_at o (value_at rows k))) []
      by false e f = refl
      by true e f = let g = not-false (fits (form (row_at t k)) (value_at rows k).source (octets_at o (value_at rows k))) f in rw (g, addable-bears (form (row_at t k)) iei b)

  added-piece : (k : ℕ) → k < n → added_piece_by m s k ≡ added_piece F s k
  unfolding added_piece_by added_piece
  added-piece k h =
      let b = first-bears table k w.passes h in
      let l = bears-octet (form (row_at t k)) (first_iei t k) b in
      let z : (numbers_at table k).first % 256 ≡ first_iei t k = let f = (whole-rows table w.passes).first k in omega arith in
      ap (λ (e : List ℕ). pick (bit k s) e []) (ap (element_by m k) z ∙ element-is k (first_iei t k) h b)

  added_is : (j k : ℕ) → k + j ≤ n → concat (added_by m s k j) ≡ firsts F (added_in s k j)
  unfolding added_by added_in firsts concat
  added_is zero k h = refl
  added_is (suc j) k h = rw (added-piece k (omega arith), added_is j (suc k) (omega arith)) (sym (added-step F s k j))

  added_none : (c : ℕ) → concat (added_by m s c 0) ≡ firsts F (added_in s c 0)
  unfolding added_by added_in firsts concat
  added_none c = refl

  added-below : (c k : ℕ) → k < n → concat (added_by m s c (k - c)) ≡ firsts F (added_in s c (k - c))
  added-below c k h = by (ltb c k) refl
    where
      by : (b : Bool) → ltb c k ≡ b → concat (added_by m s c (k - c)) ≡ firsts F (added_in s c (k - c))
      by true e = added_is (k - c) c (let l = ltb-true c k e in omega arith)
      by false e = let z : k - c ≡ 0 = let l = ltb-false c k e in omega arith in rw z (added_none c)

  -- ---- the entries

  known_is : (i c : ℕ) → (concat (known_by m (index t) s i c) ≡ known_piece F s i c (place_of t i)) × (place_by (index t) i c ≡ known_place c (place_of t i))
  unfolding added_octets concat
  known_is i c = by (place_of t i) refl
    where
      by : (q : Option ℕ) → place_of t i ≡ q → (concat (known_by m (index t) s i c) ≡ known_piece F s i c q) × (place_by (index t) i c ≡ known_place c q)
      by none e = let r = known-nowhere m (index t) s i c (index_same t w.passes i ∙ e) in (ap concat r.0, r.1)
      by (some k) e =
          let r = known_at m (index t) s i c (index_same t w.passes i ∙ e) in
          let l = listed t i k w.passes e in
          let a : concat (added_by m s c (k - c)) ≡ firsts F (added_in s c (k - c)) = added-below c k l.inside in
          let b : element_by m k i ++ [] ≡ element_at F k i = append-nil (element_by m k i) ∙ element-is k i l.inside l.formed in
          (ap concat r.0 ∙ concat-append (added_by m s c (k - c)) (element_by m k i ∷ []) ∙ ap₂ ◌++◌ a b, r.1)

  next-is : (ks : List (List ℕ)) → concat (next_by ks) ≡ next_of ks
  unfolding next_by next_of concat
  next-is [] = refl
  next-is (e ∷ es) = append-nil e

  end_is : (c : ℕ) (ks : List (List ℕ)) → c ≤ n → concat (pieces_by m (index t) s [] c ks) ≡ left_of F s [] c ks
  unfolding added_octets
  end_is c ks h = ap concat (pieces_end m (index t) s c ks) ∙ concat-append (added_by m s c (n - c)) ks ∙ ap (λ (a : List ℕ). a ++ concat ks) (added_is (n - c) c (omega arith)) ∙ sym (left_end F s c ks)

  walked-is : (order : List ℕ) (ps : List Placed) (c : ℕ) (ks : List (List ℕ)) → c ≤ n → order_list order ≡ some ps → concat (pieces_by m (index t) s order c ks) ≡ left_of F s ps c ks
  unfolding pieces_by order_front order_by order_entry
  walked-is [] ps c ks h e = let z : ps ≡ [] = let f = order-nil [] refl in cc in rw z (end_is c ks h)
  walked-is (zero ∷ []) ps c ks h e = absurd (never (zero ∷ []) e (order-front (zero ∷ []) (omega arith)))
  walked-is (zero ∷ i ∷ o) ps c ks h e =
      let g = put_is (known_iei i) (order_list o) (sym (order-front (zero ∷ i ∷ o) (omega arith)) ∙ e) in
      let r = known_is i c in
      let q : known_place c (place_of t i) ≤ n = place_inside F s w.passes c h g.rest ks i in
      rw g.both
      (concat-append (known_by m (index t) s i c) (pieces_by m (index t) s o (place_by (index t) i c) ks)
      ∙ ap₂ ◌++◌ r.0 (ap (λ (d : ℕ). concat (pieces_by m (index t) s o d ks)) r.1 ∙ walked-is o g.rest (known_place c (place_of t i)) ks q g.rest-is)
      ∙ sym (left_step F s w.passes c h g.rest ks i))
  walked-is (suc x ∷ o) ps c ks h e = by (ltb 4 (suc x)) refl (λ rest f. walked-is o rest c (rest_of ks) h f)
    where
      by : (b : Bool) → ltb 4 (suc x) ≡ b → ((rest : List Placed) → order_list o ≡ some rest → concat (pieces_by m (index t) s o c (rest_of ks)) ≡ left_of F s rest c (rest_of ks))
          → concat (next_by ks ++ pieces_by m (index t) s o c (rest_of ks)) ≡ left_of F s ps c ks
      by true q r = absurd (never (suc x ∷ o) e (order-front (suc x ∷ o) (omega arith) ∙ ap (order_by (suc x ∷ o)) (front-over (suc x ∷ o) (omega arith) (ltb-true 4 (suc x) q))))
      by false q r =
          let f : order_list (suc x ∷ o) ≡ put (aside_by (suc x)) (order_list (drop (length (order_entry (aside_by (suc x)))) (suc x ∷ o))) =
          order-front (suc x ∷ o) (omega arith) ∙ ap (order_by (suc x ∷ o)) (front-aside (suc x ∷ o) (suc x) (omega arith) refl (omega arith) (ltb-false 4 (suc x) q)) in
          let g = put_is (aside_by (suc x)) (order_list o) (sym (rw (aside-octet (suc x)) at f) ∙ e) in
          let rest = pieces_by m (index t) s o c (rest_of ks) in
          rw g.both
          (concat-append (next_by ks) rest ∙ ap₂ ◌++◌ (next-is ks) (r g.rest g.rest-is)
          ∙ sym (aside-cases (Passed F s) (left-unknown F s) (left-ignored F s) (suc x) g.rest c ks))

-- ---- the whole

-- where there is room it is all written, and its end is told
pub all-written : (table rows received set order kept : List ℕ) (s : ℕ) → Writable table rows received set → (ps : List Placed) → order_list order ≡ some ps → (ks : List (List ℕ)) → kept_list kept ≡ some ks
    → {ix output after : List ℕ} {r : ℕ} → ix ≡ index (rows_of table) → length (left_of (filled_of table rows received set) s ps 0 ks) ≤ length output
    → Lays (pieces_by (lent_of table rows received set) ix s order 0 (elements_from kept 0)) 0 output r after
    → (r ≡ length (left_of (filled_of table rows received set) s ps 0 ks)) × (after ≡ over (left_of (filled_of table rows received set) s ps 0 ks) output)
unfolding over_at
all-written table rows received set order kept s w ps p ks q {output = output} i room l =
    let m = lent_of table rows received set in
    let pieces = pieces_by m (index (rows_of table)) s order 0 (elements_from kept 0) in
    let e : concat pieces ≡ left_of (filled_of table rows received set) s ps 0 ks =
    ap (λ (es : List (List ℕ)). concat (pieces_by m (index (rows_of table)) s order 0 es)) (elements-are kept ks 0 (omega arith) q) ∙ walked-is table rows received set w s order ps 0 ks (omega arith) p in
    let f = laid-all pieces 0 output (omega (arith, ap length e, room)) in
    let g = rw i at l.is ∙ f in
    let z : 0 + length (concat pieces) ≡ length (concat pieces) = omega arith in
    (ap (λ (x : Laid). x.at) g ∙ z ∙ ap length e, ap (λ (x : Laid). x.octets) g ∙ ap (λ (x : List ℕ). over x output) e)
