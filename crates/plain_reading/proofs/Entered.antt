-- Entering every element of a part into rows of zeros, each with its own IEI, gives the rows of its places.
-- An accepted element's place was not met before, so its row is entered once; a place that was met is not accepted again.
use Prim.Native.Nat.{ℕ, zero, suc, ◌+◌, ◌*◌, ◌-◌, ◌≤◌, ◌<◌}
use native.Mathlib.Omega.{arith}
use mathlib.Core.Path.{◌≡◌, refl, ap, sym, ◌∙◌}
use mathlib.Core.List.{List, [], ◌∷◌, ◌++◌, append_assoc}
use mathlib.Core.Bool.{Bool, true, false, ◌&&◌, ◌||◌, true≢false, false≢true}
use mathlib.Core.Option.{Option, some}
use borrow.Author.Tests.{eqb-true, eqb-false, eq-eqb, ne_eqb}
use Rattle.std.specs.Prelude.{Some}
use lib.ListN.{length, take, drop, replicate, length-replicate, length-append}
use lib.Seq.{take-append-add, drop-append-add, drop_at}
use lib.Dec.{eqb}
use Rattle.definitions.specs.Basic.{pick, bit, over, over_at}
use Rattle.definitions.specs.Rows.{Row, row_at, form}
use Rattle.definitions.specs.Length.{header}
use Rattle.definitions.specs.Elements.{Verdict, accepted, unknown, malformed, repeated, out_of_sequence, is_accepted, is_at, Element, iei_at, Met, meet, parted, elements}
use Rattle.definitions.specs.Logs.{Placed, order_of, order_list, or_empty, iei_for}
use Rattle.definitions.specs.Reading.{received, place_row, place_rows_from, place_rows}
use Rattle.definitions.proofs.Ieis.{own_row, own-row}
use Rattle.definitions.proofs.BitLaws.{bit-including, no-bit}
use Rattle.definitions.proofs.Steps.{Stands, strange, placed, Reads, end, more, reads}
use Rattle.elements.specs.Steps.{element_of, place_of, placed_for}
use Rattle.plain_reading.specs.Entered.{row_entered, row_by, entered_all}
use Rattle.plain_reading.proofs.Accepted.{Accepted, accepted-one}

-- ---- rows of four numbers, by a function of the place

rows_from : (ℕ → List ℕ) → ℕ → ℕ → List ℕ
rows_from g k zero = []
rows_from g k (suc n) = g k ++ rows_from g (suc k) n

abbrev Fours : (ℕ → List ℕ) → Type 0
Fours g = (j : ℕ) → length (g j) ≡ 4

updated : (ℕ → List ℕ) → ℕ → List ℕ → ℕ → List ℕ
updated g j v i = pick (eqb i j) v (g i)

rows_same : (g h : ℕ → List ℕ) (k n : ℕ) → ((j : ℕ) → k ≤ j → j < k + n → g j ≡ h j) → rows_from g k n ≡ rows_from h k n
unfolding rows_from
rows_same g h k zero e = refl
rows_same g h k (suc n) e = rw (e k (omega arith) (omega arith), rows_same g h (suc k) n (λ j l m. e j (omega arith) (omega arith)))

-- a front written behind a first piece
over-shift : (a b v : List ℕ) (m : ℕ) → over_at (length a + m) v (a ++ b) ≡ a ++ over_at m v b
unfolding over_at
over-shift a b v m = rw (take-append-add a b m, drop-append-add a b m) (append_assoc a (take m b) (over v (drop m b)))

over_zero : (v d : List ℕ) → over_at 0 v d ≡ v ++ drop (length v) d
unfolding over_at over
over_zero v d = refl

updated-at : (g : ℕ → List ℕ) (j : ℕ) (v : List ℕ) (i : ℕ) → i ≡ j → updated g j v i ≡ v
unfolding updated
updated-at g j v i e = rw (eq-eqb i j e)

updated-off : (g : ℕ → List ℕ) (j : ℕ) (v : List ℕ) (i : ℕ) → (i ≡ j → ⊥) → updated g j v i ≡ g i
unfolding updated
updated-off g j v i n = rw (ne_eqb i j n)

row_put : (g : ℕ → List ℕ) → Fours g → (v r : List ℕ) → length v ≡ 4 → (n k i j : ℕ) → i < n → j ≡ k + i → over_at (4 * i) v (rows_from g k n ++ r) ≡ rows_from (updated g j v) k n ++ r
unfolding rows_from
row_put g t v r l zero k i j h e = absurd (omega arith)
row_put g t v r l (suc n) k zero j h e =
    let here : updated g j v k ≡ v = updated-at g j v k (omega arith) in
    let rest : rows_from (updated g j v) (suc k) n ≡ rows_from g (suc k) n = rows_same (updated g j v) g (suc k) n (λ i a b. updated-off g j v i (omega arith)) in
    rw (here, rest, append_assoc, append_assoc) (front (g k) (rows_from g (suc k) n ++ r) (t k))
  where
    front : (a b : List ℕ) → length a ≡ 4 → over_at 0 v (a ++ b) ≡ v ++ b
    front a b m = over_zero v (a ++ b) ∙ rw (l, drop_at a b 4 m)
row_put g t v r l (suc n) k (suc i) j h e =
    let here : updated g j v k ≡ g k = updated-off g j v k (omega arith) in
    let m : 4 * suc i ≡ length (g k) + 4 * i = omega (arith, t k) in
    rw (here, m, append_assoc, append_assoc) (over-shift (g k) (rows_from g (suc k) n ++ r) v (4 * i) ∙ ap (λ (x : List ℕ). g k ++ x) (row_put g t v r l n (suc k) i j (omega arith) (omega arith)))

abbrev zeros : List ℕ
zeros = 0 ∷ 0 ∷ 0 ∷ 0 ∷ []

-- rows of zeros, and the rows of places
zero-rows : (k n : ℕ) → replicate (4 * n) 0 ≡ rows_from (λ (j : ℕ). zeros) k n
unfolding rows_from
zero-rows k zero = refl
zero-rows k (suc n) =
    let e : 4 * suc n ≡ suc (suc (suc (suc (4 * n)))) = omega arith in
    ap (λ (m : ℕ). replicate m 0) e ∙ ap (λ (x : List ℕ). 0 ∷ 0 ∷ 0 ∷ 0 ∷ x) (zero-rows (suc k) n)

place-rows : (t : List Row) (ps : List Placed) (es : List Element) (k n : ℕ) → place_rows_from t ps es k n ≡ rows_from (place_row t ps es) k n
unfolding rows_from place_rows_from
place-rows t ps es k zero = refl
place-rows t ps es k (suc n) = ap (λ (x : List ℕ). place_row t ps es k ++ x) (place-rows t ps es (suc k) n)

fours-updated : (g : ℕ → List ℕ) (p : ℕ) (v : List ℕ) → Fours g → length v ≡ 4 → Fours (updated g p v)
unfolding updated
fours-updated g p v th l j = by (eqb j p)
  where
    by : (b : Bool) → length (pick b v (g j)) ≡ 4
    by true = l
    by false = th j

-- ---- the rows of a place by the first element

module _ (t : List Row) (e : Element) (es : List Element) (j : ℕ) where
  row-skip : is_accepted e.verdict ≡ false → own_row t (e ∷ es) j ≡ own_row t es j
  unfolding own_row
  row-skip a = rw a

  row_other : {k : ℕ} → e.place ≡ some k → (j ≡ k → ⊥) → own_row t (e ∷ es) j ≡ own_row t es j
  unfolding own_row is_at
  row_other {k} h n = rw (h, ne_eqb k j (λ q. n (sym q))) (by (is_accepted e.verdict) _ _)
    where
      by : (b : Bool) (x y : List ℕ) → pick (b && false) x y ≡ y
      by true x y = refl
      by false x y = refl

  row_here : is_accepted e.verdict ≡ true → e.place ≡ some j → own_row t (e ∷ es) j ≡ received t (iei_at e) j e
  unfolding own_row is_at
  row_here a h = rw (a, h, eq-eqb j j refl)

-- ---- what was met

or-true : (b : Bool) → (b || true) ≡ true
or-true true = refl
or-true false = refl

-- what was met stays met
still : {t : List Row} {start : ℕ} {option : Bool} {m m' : Met} {at : ℕ} {s : List ℕ} {e : Element} → Stands t start option m at s e m'
    → (j : ℕ) → bit j m.places ≡ true → bit j m'.places ≡ true
unfolding meet
still (strange p r) j h = h
still (placed {m = m} k p) j h = bit-including j k m.places ∙ rw h (or-true (eqb j k))

not-before : {t : List Row} {start : ℕ} {option : Bool} {m m' : Met} {at : ℕ} {s : List ℕ} {e : Element} → Stands t start option m at s e m'
    → (j : ℕ) → bit j m'.places ≡ false → bit j m.places ≡ false
not-before {m = m} d j h = by (bit j m.places) refl
  where
    by : (b : Bool) → bit j m.places ≡ b → b ≡ false
    by true q = absurd (false≢true (sym h ∙ still d j q))
    by false q = refl

-- what is met with an accepted element: its place, and what was met
pub met-with : {t : List Row} {m m' : Met} {e : Element} (c : Accepted t m m' e) (j : ℕ) → bit j m'.places ≡ (eqb j c.place || bit j m.places)
unfolding meet
met-with {m = m} c j = ap (λ (x : Met). bit j x.places) c.meets ∙ bit-including j c.place m.places

received-four : (t : List Row) (i k : ℕ) (e : Element) → length (received t i k e) ≡ 4
unfolding received
received-four t i k e = refl

row-four : (t : List Row) (ps : List Placed) (es : List Element) (j : ℕ) → length (place_row t ps es j) ≡ 4
unfolding place_row
row-four t ps [] j = refl
row-four t ps (e ∷ es) j = by (is_accepted e.verdict && is_at j e) (row-four t ps es j)
  where
    by : (b : Bool) → length (place_row t ps es j) ≡ 4 → length (pick b (received t (iei_for t ps j) j e) (place_row t ps es j)) ≡ 4
    by true h = received-four t (iei_for t ps j) j e
    by false h = h

rows_long : (g : ℕ → List ℕ) → Fours g → (k n : ℕ) → length (rows_from g k n) ≡ 4 * n
unfolding rows_from
rows_long g th k zero = refl
rows_long g th k (suc n) = length-append (g k) (rows_from g (suc k) n) ∙ rw (th k, rows_long g th (suc k) n) (omega arith)

module _ (t : List Row) (start : ℕ) (option : Bool) where
  -- a place that was met is not accepted again
  met-none : {m : Met} {at : ℕ} {s : List ℕ} {es : List Element} → Reads t start option m at s es → (j : ℕ) → bit j m.places ≡ true → own_row t es j ≡ zeros
  unfolding own_row
  met-none end j h = refl
  met-none (more {m = m} {m' = m'} {e = e} {es = es} d r) j h = by (is_accepted e.verdict) refl (met-none r j (still d j h))
    where
      by : (b : Bool) → is_accepted e.verdict ≡ b → own_row t es j ≡ zeros → own_row t (e ∷ es) j ≡ zeros
      by false a z = row-skip t e es j a ∙ z
      by true a z =
          let c : Accepted t m m' e = accepted-one d a in
          row_other t e es j c.has (λ q. true≢false (sym h ∙ rw q c.new)) ∙ z

  -- the rows that entering leaves: those of places met before as they were, the others of their elements
  abbrev Rows : Met → (ℕ → List ℕ) → List Element → ℕ → List ℕ
  Rows m g es j = pick (bit j m.places) (g j) (own_row t es j)

  abbrev Unmet : Met → (ℕ → List ℕ) → Type 0
  Unmet m g = (j : ℕ) → bit j m.places ≡ false → g j ≡ zeros

  -- entering an accepted element, and one that is not
  enter-accepted : {m m' : Met} {e : Element} → Accepted t m m' e → is_accepted e.verdict ≡ true → (g : ℕ → List ℕ) → Fours g → (r : List ℕ)
      → (c : ℕ) → e.place ≡ some c → c < length t → row_entered t (element_of e) (rows_from g 0 (length t) ++ r) ≡ rows_from (updated g c (received t (iei_at e) c e)) 0 (length t) ++ r
  unfolding row_entered element_of received is_accepted
  enter-accepted {e = e} a v g th r c has inside =
      ap (λ (o : Option ℕ). row_by t (place_of o) e.at (length e.octets) (rows_from g 0 (length t) ++ r) (placed_for (iei_at e) e.verdict)) has
      ∙ by e.verdict v
      ∙ row_put g th _ r refl (length t) 0 c c inside (omega arith)
    where
      by : (w : Verdict) → is_accepted w ≡ true
          → row_by t (Some c) e.at (length e.octets) (rows_from g 0 (length t) ++ r) (placed_for (iei_at e) w)
          ≡ over_at (4 * c) (1 ∷ (e.at + header (form (row_at t c))) ∷ (length e.octets - header (form (row_at t c))) ∷ iei_at e ∷ []) (rows_from g 0 (length t) ++ r)
      by accepted q = refl
      by unknown q = absurd (false≢true q)
      by malformed q = absurd (false≢true q)
      by repeated q = absurd (false≢true q)
      by out_of_sequence q = absurd (false≢true q)

  enter-aside : (e : Element) → is_accepted e.verdict ≡ false → (rows : List ℕ) → row_entered t (element_of e) rows ≡ rows
  unfolding row_entered element_of is_accepted
  enter-aside e a rows = by e.verdict a
    where
      by : (w : Verdict) → is_accepted w ≡ false → row_by t (place_of e.place) e.at (length e.octets) rows (placed_for (iei_at e) w) ≡ rows
      by accepted q = absurd (true≢false q)
      by unknown q = refl
      by malformed q = refl
      by repeated q = refl
      by out_of_sequence q = refl

  entered : {m : Met} {at : ℕ} {s : List ℕ} {es : List Element} → Reads t start option m at s es → (g : ℕ → List ℕ) → Fours g → Unmet m g → (r : List ℕ)
      → entered_all t es (rows_from g 0 (length t) ++ r) ≡ rows_from (Rows m g es) 0 (length t) ++ r
  unfolding entered_all own_row
  entered {m = m} end g th u r = ap (λ (x : List ℕ). x ++ r) (rows_same g (Rows m g []) 0 (length t) (λ j a b. by j (bit j m.places) refl))
    where
      by : (j : ℕ) (b : Bool) → bit j m.places ≡ b → g j ≡ pick b (g j) zeros
      by j true q = refl
      by j false q = u j q
  entered {m = m} (more {m' = m'} {e = e} {es = es} d rest) g th u r = by (is_accepted e.verdict) refl (entered rest)
    where
      Then : Type 0
      Then = (h : ℕ → List ℕ) → Fours h → Unmet m' h → (r : List ℕ) → entered_all t es (rows_from h 0 (length t) ++ r) ≡ rows_from (Rows m' h es) 0 (length t) ++ r

      by : (b : Bool) → is_accepted e.verdict ≡ b → Then → entered_all t es (row_entered t (element_of e) (rows_from g 0 (length t) ++ r)) ≡ rows_from (Rows m g (e ∷ es)) 0 (length t) ++ r
      by false a k =
          ap (entered_all t es) (enter-aside e a (rows_from g 0 (length t) ++ r))
          ∙ k g th (λ j h. u j (not-before d j h)) r
          ∙ ap (λ (x : List ℕ). x ++ r) (rows_same (Rows m' g es) (Rows m g (e ∷ es)) 0 (length t) (λ j l n. same j (bit j m.places) (bit j m'.places) refl refl))
        where
          same : (j : ℕ) (p q : Bool) → bit j m.places ≡ p → bit j m'.places ≡ q → pick q (g j) (own_row t es j) ≡ pick p (g j) (own_row t (e ∷ es) j)
          same j true true x y = refl
          same j true false x y = absurd (false≢true (sym y ∙ still d j x))
          same j false true x y = u j x ∙ sym (row-skip t e es j a ∙ met-none rest j y)
          same j false false x y = sym (row-skip t e es j a)
      by true a k =
          let c : Accepted t m m' e = accepted-one d a in
          ap (entered_all t es) (enter-accepted c a g th r c.place c.has c.inside)
          ∙ k (updated g c.place (received t (iei_at e) c.place e)) (four c.place) (unmet c) r
          ∙ ap (λ (x : List ℕ). x ++ r) (rows_same (Rows m' (updated g c.place (received t (iei_at e) c.place e)) es) (Rows m g (e ∷ es)) 0 (length t) (λ j l n. same c j))
        where
          four : (p : ℕ) → Fours (updated g p (received t (iei_at e) p e))
          four p = fours-updated g p (received t (iei_at e) p e) th (received-four t (iei_at e) p e)

          unmet : (c : Accepted t m m' e) → Unmet m' (updated g c.place (received t (iei_at e) c.place e))
          unmet c j h = off (eqb j c.place) refl (sym (met-with c j) ∙ h)
            where
              off : (b : Bool) → eqb j c.place ≡ b → (b || bit j m.places) ≡ false → updated g c.place (received t (iei_at e) c.place e) j ≡ zeros
              off true q f = absurd (true≢false f)
              off false q f = updated-off g c.place (received t (iei_at e) c.place e) j (eqb-false j c.place q) ∙ u j f

          same : (c : Accepted t m m' e) (j : ℕ) → Rows m' (updated g c.place (received t (iei_at e) c.place e)) es j ≡ Rows m g (e ∷ es) j
          same c j = rw (met-with c j) (each (eqb j c.place) refl)
            where
              each : (b : Bool) → eqb j c.place ≡ b → pick (b || bit j m.places) (updated g c.place (received t (iei_at e) c.place e) j) (own_row t es j) ≡ Rows m g (e ∷ es) j
              each true q =
                  let i : j ≡ c.place = eqb-true j c.place q in
                  rw (i, c.new) (updated-at g c.place (received t (iei_at e) c.place e) c.place refl ∙ sym (row_here t e es c.place a c.has))
              each false q =
                  let i : j ≡ c.place → ⊥ = eqb-false j c.place q in
                  rw (updated-off g c.place (received t (iei_at e) c.place e) j i, row_other t e es j c.has i)

-- the whole part, from rows of zeros
pub all-entered : (t : List Row) (start : ℕ) (option : Bool) (part : List ℕ) (es : List Element) → parted t start option part ≡ elements es
    → (rows : List ℕ) → entered_all t es (over (replicate (4 * length t) 0) rows) ≡ over (place_rows t es) rows
unfolding over place_rows
all-entered t start option part es e rows =
    let n : ℕ = length t in
    let z : length (replicate {A = ℕ} (4 * n) 0) ≡ 4 * n = length-replicate (4 * n) 0 in
    let p : length (place_rows_from t ps es 0 n) ≡ 4 * n = ap length (place-rows t ps es 0 n) ∙ rows_long (place_row t ps es) (row-four t ps es) 0 n in
    rw (z, p, zero-rows 0 n, place-rows t ps es 0 n) (entered t start option (reads t start option e) (λ (j : ℕ). zeros) (λ j. refl) (λ j h. refl) (drop (4 * n) rows) ∙ ap (λ (x : List ℕ). x ++ drop (4 * n) rows) (rows_same _ _ 0 n (λ j a b. start-row j)))
  where
    ps : List Placed
    ps = or_empty (order_list (order_of t es))

    start-row : (j : ℕ) → pick (bit j 0) zeros (own_row t es j) ≡ place_row t ps es j
    start-row j = rw (no-bit j) (sym (own-row t start option part es e j))
