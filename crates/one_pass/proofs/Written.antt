-- What the pass writes is what writing does, and every row is well formed, agrees with the order log and fits. A place that was passed and is
-- not in the set of names is named no more, so it is right under its first IEI: by induction on the entries that are left.
use Prim.Native.Nat.{ℕ, zero, suc, ◌+◌, ◌-◌, ◌≤◌, ◌<◌, max}
use native.Mathlib.Nat.{zero-add, suc-add}
use native.Mathlib.Omega.{arith}
use mathlib.Core.Path.{◌≡◌, refl, ap, sym, ◌∙◌}
use mathlib.Core.List.{List, [], ◌∷◌, ◌++◌}
use mathlib.Core.Bool.{Bool, true, false, ◌&&◌, not, and-false, false≢true}
use mathlib.Core.Option.{Option, none, some, none-ne-some, some-injective}
use borrow.Author.Tests.{eq-eqb, ne_eqb, eqb-true, eqb-false, lt-ltb, le-ltb, ltb-true, ltb-false}
use lib.ListN.{length}
use lib.Dec.{ltb, leb, eqb}
use Rattle.definitions.specs.Basic.{pick, bit, among, concat}
use Rattle.definitions.specs.Rows.{Row, Form, rows_of, row_at, form, first_iei, first_bad, place_of, index}
use Rattle.definitions.specs.Logs.{Placed, known_iei, not_known, ignored, kept_list, order_list, iei_for}
use Rattle.definitions.specs.Values.{Octets, Value, place_width, value_at, present, octets_at, good_value, bad_rows, unlike, apart_at, apart, fits, unfit_at}
use Rattle.definitions.specs.Writing.{Filled, encoded, element_at, logged, added_from, below, not_below, firsts, walked, written, unfit}
use Rattle.definitions.proofs.Checks.{first-none, none_of}
use Rattle.definitions.proofs.RowLaws.{both, listed}
use Rattle.definitions.proofs.TableLaws.{index_same}
use Rattle.rows.specs.Numbers.{numbers_at}
use Rattle.rows.proofs.WholeRows.{whole-rows}
use Rattle.values.specs.Rows.{sources_of}
use Rattle.putting.specs.Puts.{addable, writable}
use Rattle.placing.specs.Pieces.{Lent, lent_of, joined, judged, piece_by}
use Rattle.unnamed.specs.Named.{names, unnamed_piece, unnamed}
use Rattle.unnamed.proofs.Naming.{unnamed-over}
use Rattle.unnamed.proofs.Logged.{names-logged}
use Rattle.one_pass.specs.Passes.{passed, left_by, passed_by}

-- what writing makes of a message for which the pass gives octets
pub record Wholly (table rows received set order kept s : List ℕ) : Type 0 where
  pub ps : List Placed
  pub ks : List (List ℕ)
  pub order_is : order_list order ≡ some ps
  pub kept-is : kept_list kept ≡ some ks
  pub formed : bad_rows place_width (sources_of received set) rows (length (rows_of table)) ≡ false
  pub agrees : apart (rows_of table) ps rows ≡ false
  pub fit : unfit (rows_of table) (sources_of received set) rows ≡ none
  pub octets : written (record { table = rows_of table; rows = rows; octets = sources_of received set }) ps ks ≡ s

-- ---- what is there

record Both (a b : Option (List ℕ)) (s : List ℕ) : Type 0 where
  one : List ℕ
  two : List ℕ
  one-is : a ≡ some one
  two_is : b ≡ some two
  whole : one ++ two ≡ s

pieces : (a b : Option (List ℕ)) {s : List ℕ} → joined a b ≡ some s → Both a b s
unfolding joined
pieces none b e = absurd (none-ne-some _ e)
pieces (some x) none e = absurd (none-ne-some _ e)
pieces (some x) (some y) e = record { one = x; two = y; one-is = refl; two_is = refl; whole = cc }

where-true : (b : Bool) {x : Option (List ℕ)} {s : List ℕ} → pick b x none ≡ some s → (b ≡ true) × (x ≡ some s)
where-true true e = (refl, e)
where-true false e = absurd (none-ne-some _ e)

where-false : (b : Bool) {x : Option (List ℕ)} {s : List ℕ} → pick b none x ≡ some s → (b ≡ false) × (x ≡ some s)
where-false true e = absurd (none-ne-some _ e)
where-false false e = (refl, e)

-- a place is in one set where it is in another
named-as : (a b l : Bool) → (l ≡ true → b ≡ true) → (b ≡ true → a ≡ true) → a ≡ l → a ≡ b
named-as true true l f g e = refl
named-as true false l f g e = absurd (false≢true (f (sym e)))
named-as false true l f g e = absurd (false≢true (g refl))
named-as false false l f g e = refl

-- with a place more
module _ (k : ℕ) (log : List ℕ) where
  among_same : (j : ℕ) → (j ≡ k → ⊥) → among j (k ∷ log) ≡ among j log
  unfolding among
  among_same j y = rw (ne_eqb j k y)

  among-here : among k (k ∷ log) ≡ true
  unfolding among
  among-here = rw (eq-eqb k k refl)

-- ---- places from one up to another

abbrev Each : ℕ → ℕ → (ℕ → Type 0) → Type 0
Each c to P = (j : ℕ) → c ≤ j → j < to → P j

around : (P : ℕ → Type 0) (c k to : ℕ) → Each c k P → P k → Each (suc k) to P → Each c to P
around P c k to before here behind j a b = by (ltb j k) refl (eqb j k) refl
  where
    by : (x : Bool) → ltb j k ≡ x → (y : Bool) → eqb j k ≡ y → P j
    by true p y q = before j a (ltb-true j k p)
    by false p true q = rw (eqb-true j k q) here
    by false p false q = let n = eqb-false j k q in behind j (omega (arith, ltb-false j k p)) b

-- ---- the added places below a place, and the others

record Parted (k : ℕ) (l low high : List ℕ) : Type 0 where
  low-is : below k l ≡ low
  high_is : not_below k l ≡ high

part-not-below : (p : Bool) {c k : ℕ} {l : List ℕ} → k ≤ c → Parted k l [] l → Parted k (pick p (c ∷ l) l) [] (pick p (c ∷ l) l)
unfolding below not_below
part-not-below true {c} {k} h i = record { low-is = rw (le-ltb c k h) i.low-is; high_is = rw (le-ltb c k h, i.high_is) }
part-not-below false h i = i

part-below : (p : Bool) {c k : ℕ} {l a b : List ℕ} → c < k → Parted k l a b → Parted k (pick p (c ∷ l) l) (pick p (c ∷ a) a) b
unfolding below not_below
part-below true {c} {k} h i = record { low-is = rw (lt-ltb c k h, i.low-is); high_is = rw (lt-ltb c k h) i.high_is }
part-below false h i = i

module _ (F : Filled) (js : List ℕ) (k : ℕ) where
  parted-from : (r c : ℕ) → k ≤ c → Parted k (added_from F js c r) [] (added_from F js c r)
  unfolding added_from below not_below
  parted-from zero c h = record { low-is = refl; high_is = refl }
  parted-from (suc r) c h = part-not-below (present (value_at F.rows c) && not (among c js)) h (parted-from r (suc c) (omega arith))

  parted : (d c r : ℕ) → c + d ≡ k → Parted k (added_from F js c (d + r)) (added_from F js c d) (added_from F js k r)
  unfolding added_from
  parted zero c r e = let z : c ≡ k = omega arith in rw (zero-add r, z) (parted-from r k (omega arith))
  parted (suc d) c r e = rw (suc-add d r) (part-below (present (value_at F.rows c) && not (among c js)) (omega arith) (parted d (suc c) r (omega arith)))

  -- the place itself: not where it is logged, else under its first IEI, if it is present
  not-added : (r : ℕ) → among k js ≡ true → added_from F js k (suc r) ≡ added_from F js (suc k) r
  unfolding added_from
  not-added r e = rw (e, and-false)

  added-first : (b : Bool) → present (value_at F.rows k) ≡ b → (r : ℕ) → among k js ≡ false
      → firsts F (added_from F js k (suc r)) ≡ element_at F k (first_iei F.table k) ++ firsts F (added_from F js (suc k) r)
  unfolding added_from firsts element_at
  added-first true q r e = simp (e, q)
  added-first false q r e = simp (e, q)

-- ---- a place

-- its value is right under an IEI
record Right (f : Form) (o : Octets) (v : Value) (iei : ℕ) : Type 0 where
  good : good_value o v ≡ true
  like : unlike v iei ≡ false
  fit : (present v && not (fits f v.source (octets_at o v))) ≡ false

judged-right : (f : Form) (o : Octets) (v : Value) (iei : ℕ) {e : List ℕ} → judged f o v iei ≡ some e
    → Right f o v iei × (pick (present v) (encoded f iei (octets_at o v)) [] ≡ e)
unfolding judged unlike writable
judged-right f o v iei {e} h = let g = where-true (good_value o v) h in by (present v) refl g.0 g.1
  where
    by : (b : Bool) → present v ≡ b → good_value o v ≡ true
        → pick b (pick (unlike v iei) none (pick (leb iei 255 && writable f v.source iei (octets_at o v)) (some (encoded f iei (octets_at o v))) none)) (some []) ≡ some e
        → Right f o v iei × (pick b (encoded f iei (octets_at o v)) [] ≡ e)
    by false q g i = (record { good = g; like = rw q; fit = rw q }, cc)
    by true q g i =
        let u = where-false (unlike v iei) i in
        let w = where-true (leb iei 255 && writable f v.source iei (octets_at o v)) u.1 in
        let y = both (fits f v.source (octets_at o v)) (addable f iei) (both (leb iei 255) (writable f v.source iei (octets_at o v)) w.0).1 in
        (record { good = g; like = u.0; fit = rw (q, y.0) }, cc)

module _ (table rows received set : List ℕ) (passes : first_bad (rows_of table) ≡ none) where
  abbrev t : List Row
  t = rows_of table

  abbrev n : ℕ
  n = length t

  abbrev F : Filled
  F = record { table = t; rows = rows; octets = sources_of received set }

  abbrev m : Lent
  m = lent_of table rows received set

  abbrev RightAt : ℕ → ℕ → Type 0
  RightAt iei k = Right (form (row_at t k)) (sources_of received set) (value_at rows k) iei

  piece : (k iei : ℕ) {e : List ℕ} → piece_by m k iei ≡ some e → RightAt iei k × (element_at F k iei ≡ e)
  unfolding piece_by form element_at
  piece k iei h = let w = whole-rows table passes in judged-right (form (row_at t k)) (sources_of received set) (value_at rows k) iei (rw (w.code k, w.size k) at h)

  -- ---- by a set of names

  module _ (named : ℕ) where
    -- a place that is not named, under its first IEI
    unnamed-one : (k : ℕ) (b : Bool) → bit k named ≡ b → {e : List ℕ} → pick b (some []) (piece_by m k (numbers_at table k).first) ≡ some e
        → (bit k named ≡ false → RightAt (first_iei t k) k) × ((js : List ℕ) (r : ℕ) → among k js ≡ b → firsts F (added_from F js k (suc r)) ≡ e ++ firsts F (added_from F js (suc k) r))
    unnamed-one k true q {e} f =
        let z : [] ≡ e = some-injective _ _ f in
        (λ n. absurd (false≢true (sym n ∙ q)), λ js r a. rw (sym z) (ap (firsts F) (not-added F js k r a)))
    unnamed-one k false q f =
        let v = piece k (first_iei t k) (ap (piece_by m k) (sym ((whole-rows table passes).first k)) ∙ f) in
        (λ n. v.0, λ js r a. added-first F js k (present (value_at rows k)) refl r a ∙ rw v.1)

    -- places one after the other
    unnamed-right : (d c to : ℕ) → c + d ≡ to → {s : List ℕ} → unnamed m named c d ≡ some s
        → Each c to (λ j. bit j named ≡ false → RightAt (first_iei t j) j) × ((js : List ℕ) → Each c to (λ j. among j js ≡ bit j named) → firsts F (added_from F js c d) ≡ s)
    unfolding unnamed unnamed_piece
    unnamed-right zero c to z e = (λ j a b. absurd (omega arith), unfold added_from firsts in λ js h. some-injective _ _ e)
    unnamed-right (suc d) c to z e =
        let p = pieces (pick (bit c named) (some []) (piece_by m c (numbers_at table c).first)) (unnamed m named (suc c) d) e in
        let q = unnamed-one c (bit c named) refl p.one-is in
        let r = unnamed-right d (suc c) to (omega arith) p.two_is in (
          around (λ j. bit j named ≡ false → RightAt (first_iei t j) j) c c to (λ j a b. absurd (omega arith)) q.0 r.0,
          λ js h. q.1 js d (h c (omega arith) (omega arith)) ∙ rw (r.1 js (λ j a b. h j (omega arith) b)) p.whole,
        )

    -- ---- what is left from a place on, by the places that are logged, the IEIs and the walk

    record Rest (log : List ℕ) (iei : ℕ → ℕ) (walk : List ℕ → List ℕ) (c : ℕ) (s : List ℕ) : Type 0 where
      before : (j : ℕ) → j < c → among j log ≡ true → bit j named ≡ true
      unlogged : (j : ℕ) → among j log ≡ false → iei j ≡ first_iei t j
      right : (j : ℕ) → j < n → (j < c → among j log ≡ true) → (bit j named ≡ true → among j log ≡ true) → RightAt (iei j) j
      octets : (js : List ℕ) → ((j : ℕ) → c ≤ j → among j js ≡ among j log) → ((j : ℕ) → bit j named ≡ true → among j js ≡ true) → walk (added_from F js c (n - c)) ≡ s

    module _ {log : List ℕ} {iei : ℕ → ℕ} {walk : List ℕ → List ℕ} where
      -- with a kept element before it
      kept-first : (x : List ℕ) {c : ℕ} {s s' : List ℕ} → x ++ s ≡ s' → Rest log iei walk c s → Rest log iei (λ a. x ++ walk a) c s'
      kept-first x e r = record { before = r.before; unlogged = r.unlogged; right = r.right; octets = λ js h g. rw (r.octets js h g) e }

    -- with an entry of a place before it
    module _ (log : List ℕ) (iei : ℕ → ℕ) (walk : List ℕ → List ℕ) (i k c : ℕ) (l : k < n) (e : List ℕ) (p : piece_by m k i ≡ some e) where
      abbrev first : ℕ → ℕ
      first j = pick (eqb k j) i (iei j)

      abbrev step : List ℕ → List ℕ
      step a = firsts F (below k a) ++ (element_at F k i ++ walk (not_below k a))

      unlogged-on : {c' : ℕ} {s : List ℕ} → Rest log iei walk c' s → (j : ℕ) → among j (k ∷ log) ≡ false → first j ≡ first_iei t j
      unlogged-on r j f = by (eqb k j) refl
        where
          by : (b : Bool) → eqb k j ≡ b → pick b i (iei j) ≡ first_iei t j
          by true q = absurd (false≢true (sym f ∙ ap (λ (x : ℕ). among x (k ∷ log)) (sym (eqb-true k j q)) ∙ among-here k log))
          by false q = r.unlogged j (sym (among_same k log j (λ w. eqb-false k j q (sym w))) ∙ f)

      -- a place is the entry's, or logged behind it, or between, or looked at behind it
      right-on : {c' : ℕ} {s : List ℕ} → ((j : ℕ) → c ≤ j → j < c' → (j ≡ k → ⊥) → bit j named ≡ false → RightAt (first_iei t j) j) → Rest log iei walk c' s
          → (j : ℕ) → j < n → (j < c → among j (k ∷ log) ≡ true) → (bit j named ≡ true → among j (k ∷ log) ≡ true) → RightAt (first j) j
      right-on {c'} u r j a f g = by (eqb k j) refl (among j log) refl
        where
          other : eqb k j ≡ false → (j ≡ k → ⊥)
          other q w = eqb-false k j q (sym w)

          none-of-log : eqb k j ≡ false → among j log ≡ false → among j (k ∷ log) ≡ true → ⊥
          none-of-log q y w = false≢true (sym y ∙ sym (among_same k log j (other q)) ∙ w)

          between : eqb k j ≡ false → among j log ≡ false → (b : Bool) → ltb j c ≡ b → (d : Bool) → bit j named ≡ d → (e : Bool) → ltb j c' ≡ e → RightAt (iei j) j
          between q y true w d x e v = absurd (none-of-log q y (f (ltb-true j c w)))
          between q y false w true x e v = absurd (none-of-log q y (g x))
          between q y false w false x true v = rw (r.unlogged j y) (u j (ltb-false j c w) (ltb-true j c' v) (other q) x)
          between q y false w false x false v = r.right j a (λ h. absurd (omega (arith, ltb-false j c' v))) (λ h. absurd (false≢true (sym x ∙ h)))

          by : (b : Bool) → eqb k j ≡ b → (d : Bool) → among j log ≡ d → RightAt (pick b i (iei j)) j
          by true q d y = rw (sym (eqb-true k j q)) (piece k i p).0
          by false q true y = r.right j a (λ w. y) (λ w. y)
          by false q false y = between q y (ltb j c) refl (bit j named) refl (ltb j c') refl

      -- above all that came before: the unnamed places between come first
      above-first : c ≤ k → {x s : List ℕ} → unnamed m named c (k - c) ≡ some x → Rest log iei walk (suc k) s → Rest (k ∷ log) first step c (x ++ (e ++ s))
      above-first h f r =
          let u = unnamed-right (k - c) c k (omega arith) f in
          let v = piece k i p in
          let z : n - c ≡ (k - c) + suc (n - suc k) = omega arith in
          record {
            before = λ j a b. r.before j (omega arith) (sym (among_same k log j (λ w. omega arith)) ∙ b);
            unlogged = unlogged-on r;
            right = right-on (λ j a b y. u.0 j a (omega arith)) r;
            octets = λ js a g.
                let b : (j : ℕ) → c ≤ j → (j ≡ k → ⊥) → among j js ≡ among j log = λ j x y. a j x ∙ among_same k log j y in
                let d = parted F js k (k - c) c (suc (n - suc k)) (omega arith) in
                let y = not-added F js k (n - suc k) (a k h ∙ among-here k log) in
                rw (z, d.low-is, u.1 js (λ j x w. named-as (among j js) (bit j named) (among j log) (r.before j (omega arith)) (g j) (b j x (λ q. omega arith))), v.1, d.high_is, y, r.octets js (λ j x. b j (omega arith) (λ q. omega arith)) g);
          }

      -- below one that came before: it is named, and nothing comes before it
      lower-first : k < c → bit k named ≡ true → {s : List ℕ} → Rest log iei walk c s → Rest (k ∷ log) first step c (e ++ s)
      unfolding firsts
      lower-first h q r =
          let v = piece k i p in
          record {
            before = λ j a b. named-on j (r.before j a) b (eqb j k) refl;
            unlogged = unlogged-on r;
            right = right-on (λ j a b y. absurd (omega arith)) r;
            octets = λ js a g.
                let d = parted-from F js k (n - c) c (omega arith) in
                rw (d.low-is, v.1, d.high_is, r.octets js (λ j x. a j x ∙ among_same k log j (λ w. omega arith)) g);
          }
        where
          named-on : (j : ℕ) → (among j log ≡ true → bit j named ≡ true) → among j (k ∷ log) ≡ true → (b : Bool) → eqb j k ≡ b → bit j named ≡ true
          named-on j f b true w = rw (eqb-true j k w) q
          named-on j f b false w = f (sym (among_same k log j (eqb-false j k w)) ∙ b)

    rest : (ps : List Placed) (c : ℕ) (ks : List (List ℕ)) (s : List ℕ) → c ≤ n → passed m (index t) named ps c ks ≡ some s → Rest (logged t ps) (iei_for t ps) (λ a. walked F ps a ks) c s
    unfolding passed logged iei_for walked among
    rest [] c ks s h e =
        let p = pieces (unnamed m named c (n - c)) (some (concat ks)) e in
        let u = unnamed-right (n - c) c n (omega arith) p.one-is in
        record {
          before = λ j a b. absurd (false≢true b);
          unlogged = λ j a. refl;
          right = λ j a f g. end-right j a f g (ltb j c) refl (bit j named) refl u.0;
          octets = λ js a g. let b = u.1 js (λ j x y. named-as (among j js) (bit j named) false (λ w. absurd (false≢true w)) (g j) (a j x)) in ap (λ (x : List ℕ). x ++ concat ks) b ∙ ap (λ (x : List ℕ). p.one ++ x) (some-injective _ _ p.two_is) ∙ p.whole;
        }
      where
        end-right : (j : ℕ) → j < n → (j < c → false ≡ true) → (bit j named ≡ true → false ≡ true) → (b : Bool) → ltb j c ≡ b → (d : Bool) → bit j named ≡ d
            → Each c n (λ j. bit j named ≡ false → RightAt (first_iei t j) j) → RightAt (first_iei t j) j
        end-right j a f g true w d x u = absurd (false≢true (f (ltb-true j c w)))
        end-right j a f g false w true x u = absurd (false≢true (g x))
        end-right j a f g false w false x u = u j (ltb-false j c w) a x
    rest (known_iei i ∷ ps) c ks s h e = by (place_of t i) refl (rw (index_same t passes i, passed) at e) (λ c' s'. rest ps c' ks s')
      where
        Behind : (c : ℕ) (s : List ℕ) → Type 0
        Behind c s = Rest (logged t ps) (iei_for t ps) (λ a. walked F ps a ks) c s

        Here : Option ℕ → Type 0
        Here o = Rest (elim o [ none ↦ logged t ps | some k ↦ k ∷ logged t ps ]) (λ j. elim o [ none ↦ iei_for t ps j | some k ↦ pick (eqb k j) i (iei_for t ps j) ])
            (λ a. elim o [ none ↦ walked F ps a ks | some k ↦ firsts F (below k a) ++ (element_at F k i ++ walked F ps (not_below k a) ks) ]) c s

        known : (k : ℕ) → k < n → (b : Bool) → ltb k c ≡ b → (d : Bool) → bit k named ≡ d → (b && not d) ≡ false
            → Both (unnamed m named c (k - c)) (joined (piece_by m k i) (passed m (index t) named ps (max c (suc k)) ks)) s
            → ((c : ℕ) (s : List ℕ) → c ≤ n → passed m (index t) named ps c ks ≡ some s → Behind c s) → Here (some k)
        known k l true q false x f a r = absurd (false≢true (sym f))
        known k l true q true x f a r =
            let w = ltb-true k c q in
            let d = pieces (piece_by m k i) (passed m (index t) named ps (max c (suc k)) ks) a.two_is in
            let y : max c (suc k) ≡ c = omega arith in
            let o : [] ≡ a.one = some-injective _ _ (sym (unnamed-over m named c k (omega arith)) ∙ a.one-is) in
            let z : d.one ++ d.two ≡ s = d.whole ∙ ap (λ (u : List ℕ). u ++ a.two) o ∙ a.whole in
            rw z at (lower-first (logged t ps) (iei_for t ps) (λ a. walked F ps a ks) i k c l d.one d.one-is w x (r c d.two h (sym (ap (λ (x : ℕ). passed m (index t) named ps x ks) y) ∙ d.two_is)))
        known k l false q d' x f a r =
            let w = ltb-false k c q in
            let d = pieces (piece_by m k i) (passed m (index t) named ps (max c (suc k)) ks) a.two_is in
            let y : max c (suc k) ≡ suc k = omega arith in
            let z : a.one ++ (d.one ++ d.two) ≡ s = ap (λ (u : List ℕ). a.one ++ u) d.whole ∙ a.whole in
            rw z at (above-first (logged t ps) (iei_for t ps) (λ a. walked F ps a ks) i k c l d.one d.one-is w a.one-is (r (suc k) d.two l (sym (ap (λ (x : ℕ). passed m (index t) named ps x ks) y) ∙ d.two_is)))

        by : (o : Option ℕ) → place_of t i ≡ o
            → elim o [ none ↦ passed m (index t) named ps c ks | some k ↦ pick (ltb k c && not (bit k named)) none (joined (unnamed m named c (k - c)) (joined (piece_by m k i) (passed m (index t) named ps (max c (suc k)) ks))) ] ≡ some s
            → ((c : ℕ) (s : List ℕ) → c ≤ n → passed m (index t) named ps c ks ≡ some s → Behind c s) → Here o
        by none q e r = r c s h e
        by (some k) q e r =
            let b = where-false (ltb k c && not (bit k named)) e in
            let a = pieces (unnamed m named c (k - c)) (joined (piece_by m k i) (passed m (index t) named ps (max c (suc k)) ks)) b.1 in
            known k (listed t i k passes q).inside (ltb k c) refl (bit k named) refl b.0 a r
    rest (not_known ∷ ps) c [] s h e = rest ps c [] s h e
    rest (not_known ∷ ps) c (x ∷ ks) s h e = let p = pieces (some x) (passed m (index t) named ps c ks) e in kept-first x (cc) (rest ps c ks p.two h p.two_is)
    rest (ignored r ∷ ps) c [] s h e = rest ps c [] s h e
    rest (ignored r ∷ ps) c (x ∷ ks) s h e = let p = pieces (some x) (passed m (index t) named ps c ks) e in kept-first x (cc) (rest ps c ks p.two h p.two_is)

-- ---- the whole

pub wholly : (table rows received set order kept : List ℕ) → first_bad (rows_of table) ≡ none → {s : List ℕ}
    → passed_by (lent_of table rows received set) (index (rows_of table)) order kept ≡ some s → Wholly table rows received set order kept s
unfolding passed_by left_by bad_rows apart apart_at unfit unfit_at written
wholly table rows received set order kept passes {s} e = by (order_list order) (kept_list kept) refl refl e
  where
    names_of : ℕ
    names_of = names (index (rows_of table)) rows order (length (rows_of table))

    by : (a : Option (List Placed)) (b : Option (List (List ℕ))) → order_list order ≡ a → kept_list kept ≡ b
        → left_by (lent_of table rows received set) (index (rows_of table)) names_of a 0 b ≡ some s → Wholly table rows received set order kept s
    by none b p q e = absurd (none-ne-some _ e)
    by (some ps) none p q e = absurd (none-ne-some _ e)
    by (some ps) (some ks) p q e =
        let r = rest table rows received set passes names_of ps 0 ks s (omega arith) e in
        let k : ℕ = length (rows_of table) in
        let g : (j : ℕ) → bit j names_of ≡ true → among j (logged (rows_of table) ps) ≡ true = λ j. names-logged (rows_of table) passes j rows order k ps p in
        let right : (j : ℕ) → j < k → Right (form (row_at (rows_of table) j)) (sources_of received set) (value_at rows j) (iei_for (rows_of table) ps j) = λ j a. r.right j a (λ h. absurd (omega arith)) (g j) in
        let z : k - 0 ≡ k = omega arith in
        record {
          ps = ps;
          ks = ks;
          order_is = p;
          kept-is = q;
          formed = none_of _ k (λ j a. rw (right j a).good);
          agrees = none_of _ k (λ j a. (right j a).like);
          fit = first-none _ 0 k (λ j a. (right j (omega arith)).fit);
          octets = rw z at (r.octets (logged (rows_of table) ps) (λ j a. refl) g);
        }
