-- What an edit leaves: the row of one place is written, and the set octets grow at their end. The values of the other places stay.
-- Each law is by whether a place is the one that was written; a value that stood within the set octets stands there still.
use Prim.Native.Nat.{ℕ, zero, suc, ◌+◌, ◌*◌, ◌≤◌, ◌<◌}
use native.Mathlib.Omega.{arith}
use mathlib.Core.Path.{◌≡◌, refl, ap, ◌∙◌}
use mathlib.Core.List.{List, [], ◌∷◌, ◌++◌}
use mathlib.Core.Bool.{Bool, true, false, ◌&&◌, not}
use mathlib.Core.Option.{none}
use lib.ListN.{length, take, drop, length-append, length-take, length-drop, length-set}
use lib.Seq.{take-append-le, drop-append-le, take-append-add, take-append_seam, take-length, drop_at, length-take-le}
use lib.Dec.{leb, eqb}
use borrow.Author.Tests.{le-leb, leb-true, eqb-true, eqb-false, not-false}
use Rattle.definitions.specs.Basic.{pick, over, over_at}
use Rattle.definitions.specs.Rows.{Row, row_at, form}
use Rattle.definitions.specs.Values.{Octets, Value, place_width, value_at, present, source_of, octets_at, good_value, bad_rows, fits, unfit_at}
use Rattle.definitions.specs.Writing.{unfit}
use Rattle.definitions.proofs.Checks.{first-none, none_first, none_of, of_none}
use Rattle.definitions.proofs.Lists.{set-four}
use Rattle.definitions.proofs.RowLaws.{both}
use Rattle.promises.proofs.Agreement.{value-here, value_there}
use Rattle.promises.proofs.Held.{held}

-- ---- octets that grow

-- what is a value of the one octets is the same value of the others
abbrev pub Grown : Octets → Octets → Type 0
Grown o o' = (v : Value) → good_value o v ≡ true → (good_value o' v ≡ true) × (octets_at o' v ≡ octets_at o v)

within : (start size : ℕ) (s more : List ℕ) → start + size ≤ length s → take size (drop start (s ++ more)) ≡ take size (drop start s)
within start size s more h =
    let l : size ≤ length (drop start s) = simp length-drop (omega arith) in
    rw (drop-append-le start s more (omega arith), take-append-le size (drop start s) more l)

pub grown : (received s more : List ℕ) → Grown (record { received = received; set = s }) (record { received = received; set = s ++ more })
unfolding good_value present octets_at source_of
grown received s more v h = by v.source h
  where
    G : List ℕ → ℕ → Bool
    G x n = good_value (record { received = received; set = x }) (record { source = n; start = v.start; size = v.size; iei = v.iei })

    T : List ℕ → ℕ → List ℕ
    T x n = take v.size (drop v.start (source_of (record { received = received; set = x }) n))

    by : (n : ℕ) → G s n ≡ true → (G (s ++ more) n ≡ true) × (T (s ++ more) n ≡ T s n)
    by zero h = (h, refl)
    by (suc zero) h = (h, refl)
    by (suc (suc n)) h =
        let p : leb 1 (suc (suc n)) ≡ true = le-leb 1 (suc (suc n)) (omega arith) in
        let b = both (leb (suc (suc n)) 2) (leb (v.start + v.size) (length s)) (rw p at h) in
        let l : v.start + v.size ≤ length s = leb-true (v.start + v.size) (length s) b.1 in
        let l' : v.start + v.size ≤ length (s ++ more) = simp length-append (omega arith) in
        (rw (p, b.0) (le-leb (v.start + v.size) (length (s ++ more)) l'), within v.start v.size s more l)

-- the used octets after a value was put behind them
pub put-behind : (n : ℕ) (new buffer : List ℕ) → n + length new ≤ length buffer → take (n + length new) (over_at n new buffer) ≡ take n buffer ++ new
unfolding over_at over
put-behind n new buffer h =
    let l : length (take n buffer) ≡ n = length-take-le n buffer (omega arith) in
    let e = take-append-add (take n buffer) (new ++ drop (length new) (drop n buffer)) (length new) in
    rw (l, take-append_seam new (drop (length new) (drop n buffer))) at e

pub behind-length : (n : ℕ) (new buffer : List ℕ) → n + length new ≤ length buffer → length (over_at n new buffer) ≡ length buffer
unfolding over_at over
behind-length n new buffer h = simp (length-append, length-take, length-drop) (omega arith)

-- and the value there
pub value-behind : (n : ℕ) (s new : List ℕ) → length s ≡ n → take (length new) (drop n (s ++ new)) ≡ new
value-behind n s new e = rw (drop_at s new n e) (take-length new)

-- ---- one row

module _ (t : List Row) (o o' : Octets) (g : Grown o o') (rows : List ℕ) (k a b c d : ℕ) (inside : k < length t) (room : place_width * length t ≤ length rows)
    (good : bad_rows place_width o rows (length t) ≡ false) where
  abbrev rows' : List ℕ
  rows' = over_at (4 * k) (a ∷ b ∷ c ∷ d ∷ []) rows

  abbrev v : Value
  v = record { source = a; start = b; size = c; iei = d }

  pub row-length : length rows' ≡ length rows
  row-length = rw (← set-four (4 * k) a b c d rows (omega arith)) (simp length-set)

  good-at : (i : ℕ) → i < length t → good_value o (value_at rows i) ≡ true
  unfolding bad_rows
  good-at i h = not-false (good_value o (value_at rows i)) (of_none (λ i. not (good_value o (value_at rows i))) (length t) good i h)

  pub row-good : good_value o' v ≡ true → bad_rows place_width o' rows' (length t) ≡ false
  unfolding bad_rows
  row-good h = none_of (λ i. not (good_value o' (value_at rows' i))) (length t) (λ i l. by i l (eqb i k) refl)
    where
      by : (i : ℕ) → i < length t → (x : Bool) → eqb i k ≡ x → not (good_value o' (value_at rows' i)) ≡ false
      by i l true e = rw (eqb-true i k e, value-here rows k a b c d (omega arith), h)
      by i l false e = rw (value_there rows k a b c d (omega arith) i (eqb-false i k e), (g (value_at rows i) (good-at i l)).0)

  pub row-held : (i : ℕ) → i < length t → held o' rows' i ≡ pick (eqb i k) (a, octets_at o' v) (held o rows i)
  row-held i l = by (eqb i k) refl
    where
      by : (x : Bool) → eqb i k ≡ x → held o' rows' i ≡ pick x (a, octets_at o' v) (held o rows i)
      by true e = ap (λ (u : Value). (u.source, octets_at o' u)) (ap (value_at rows') (eqb-true i k e) ∙ value-here rows k a b c d (omega arith))
      by false e =
          ap (λ (u : Value). (u.source, octets_at o' u)) (value_there rows k a b c d (omega arith) i (eqb-false i k e))
          ∙ ap (λ (s : List ℕ). ((value_at rows i).source, s)) (g (value_at rows i) (good-at i l)).1

  pub row_fits : (leb 1 a && not (fits (form (row_at t k)) a (octets_at o' v))) ≡ false → unfit t o rows ≡ none → unfit t o' rows' ≡ none
  unfolding unfit unfit_at present
  row_fits h u = first-none (unfit_at t o' rows') 0 (length t) (λ i l. by i (omega arith) (eqb i k) refl)
    where
      judged : ℕ → ℕ × List ℕ → Bool
      judged i x = leb 1 x.0 && not (fits (form (row_at t i)) x.0 x.1)

      by : (i : ℕ) → i < length t → (x : Bool) → eqb i k ≡ x → judged i (held o' rows' i) ≡ false
      by i l true e = ap (judged i) (rw e at (row-held i l)) ∙ rw (eqb-true i k e) h
      by i l false e = ap (judged i) (rw e at (row-held i l)) ∙ none_first (unfit_at t o rows) 0 (length t) u i (omega arith) (omega arith)
