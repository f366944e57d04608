-- Receiving does not look at the greatest length: every row that reading asks is asked for other numbers.
-- Each definition that takes a table gives the same of its rows without that number; reading is made of these.
use Prim.Native.Nat.{ℕ, zero, suc, ◌+◌, ◌*◌}
use mathlib.Core.Path.{◌≡◌, refl, sym, ap, ap₂, ◌∙◌}
use mathlib.Core.List.{List, [], ◌∷◌, map}
use mathlib.Core.Bool.{Bool, false, ◌&&◌}
use mathlib.Core.Option.{Option, none, some}
use lib.ListN.{length, drop}
use lib.Dec.{ltb, eqb}
use Rattle.definitions.specs.Values.{place_width}
use Rattle.definitions.specs.Basic.{pick, refusal, refuse, refuse_at, unless, most_octets}
use Rattle.definitions.specs.Rows.{Row, rows_of, row_at, ieis, form, first_iei, iei_of, place_from, place_of, first_bad}
use Rattle.definitions.specs.Length.{whole}
use Rattle.definitions.specs.Elements.{Element, Met, meet, taken_by, taken, known, Step, next, cut, ended, place_step, step, Parted, before, step_then, parted_f, parted, elements_of}
use Rattle.definitions.specs.Logs.{Placed, known_iei, not_known, ignored, kept_of, plain_at, plain_from, order_of, order_list, or_empty, iei_for}
use Rattle.definitions.specs.Reading.{received, place_row, place_rows_from, place_rows, Lent, Read, unread, cut_of, reading_checks, read_elements, reading}
use Rattle.promises.specs.Checked.{bare, GreatestIgnored}

module _ (t : List Row) where
  abbrev bares : List Row
  bares = map bare t

bare-at : (t : List Row) (k : ℕ) → row_at (bares t) k ≡ bare (row_at t k)
unfolding row_at bare
bare-at [] k = refl
bare-at (r ∷ rs) zero = refl
bare-at (r ∷ rs) (suc k) = bare-at rs k

bare-length : (t : List Row) → length (bares t) ≡ length t
bare-length [] = refl
bare-length (r ∷ rs) = ap suc (bare-length rs)

bare-place : (j : ℕ) (t : List Row) (iei : ℕ) → place_from j (bares t) iei ≡ place_from j t iei
unfolding place_from ieis bare
bare-place j [] iei = refl
bare-place j (r ∷ rs) iei = rw (bare-place (suc j) rs iei)

bare-first : (t : List Row) (k : ℕ) → first_iei (bares t) k ≡ first_iei t k
unfolding first_iei ieis bare
bare-first t k = rw (bare-at t k)

-- ---- the elements

bare-taken : (r : Row) (o : Option ℕ) (s : List ℕ) → taken (bare r) o s ≡ taken r o s
unfolding taken taken_by form bare
bare-taken r none s = refl
bare-taken r (some n) s = refl

module _ (t : List Row) (start : ℕ) (option : Bool) where
  bare-known : (m : Met) (at : ℕ) (s : List ℕ) (k : ℕ) → known (bares t) option m at s k ≡ known t option m at s k
  unfolding known form bare
  bare-known m at s k = rw (bare-at t k, bare-taken (row_at t k) (whole (form (row_at t k)) s) s)

  bare_step : (m : Met) (at : ℕ) (s : List ℕ) → step (bares t) start option m at s ≡ step t start option m at s
  unfolding step place_step place_of
  bare_step m at [] = refl
  bare_step m at (x ∷ xs) = rw (bare-place 0 t (iei_of x)) (go (place_from 0 t (iei_of x)))
    where
      go : (o : Option ℕ) → place_step (bares t) start option m at x (x ∷ xs) o ≡ place_step t start option m at x (x ∷ xs) o
      go none = refl
      go (some k) = ap (λ (e : Element). next e (meet k m)) (bare-known m at (x ∷ xs) k)

  bare-parted : (f : ℕ) (m : Met) (at : ℕ) (s : List ℕ) → parted_f (bares t) start option f m at s ≡ parted_f t start option f m at s
  unfolding parted_f step_then
  bare-parted zero m at s = refl
  bare-parted (suc f) m at s = rw (bare_step m at s) (go (step t start option m at s) (bare-parted f))
    where
      go : (o : Step) → ((m : Met) (at : ℕ) (s : List ℕ) → parted_f (bares t) start option f m at s ≡ parted_f t start option f m at s)
          → step_then o (λ m' n. parted_f (bares t) start option f m' (at + n) (drop n s)) ≡ step_then o (λ m' n. parted_f t start option f m' (at + n) (drop n s))
      go ended rec = refl
      go (cut a x n k) rec = refl
      go (next e m') rec = ap (before e) (rec m' (at + length e.octets) (drop (length e.octets) s))

-- ---- rows and logs

bare-plain : (t : List Row) (least : ℕ) (es : List Element) → plain_from (bares t) least es ≡ plain_from t least es
unfolding plain_from plain_at
bare-plain t least [] = refl
bare-plain t least (e ∷ es) = go e.place (λ k. bare-plain t (suc k) es)
  where
    go : (o : Option ℕ) → ((k : ℕ) → plain_from (bares t) (suc k) es ≡ plain_from t (suc k) es)
        → ◌≡◌ {A = Bool} (elim o [ none ↦ false | some k ↦ plain_at (bares t) least k e && plain_from (bares t) (suc k) es ])
        (elim o [ none ↦ false | some k ↦ plain_at t least k e && plain_from t (suc k) es ])
    go none rec = refl
    go (some k) rec = rw (bare-first t k, rec k)

bare-order : (t : List Row) (es : List Element) → order_of (bares t) es ≡ order_of t es
unfolding order_of
bare-order t es = rw (bare-plain t 0 es)

bare-iei : (t : List Row) (ps : List Placed) (k : ℕ) → iei_for (bares t) ps k ≡ iei_for t ps k
unfolding iei_for place_of
bare-iei t [] k = bare-first t k
bare-iei t (known_iei i ∷ ps) k = rw (bare-place 0 t i, iei_for) (go (place_from 0 t i) (bare-iei t ps k))
  where
    go : (o : Option ℕ) → iei_for (bares t) ps k ≡ iei_for t ps k
        → ◌≡◌ {A = ℕ} (elim o [ none ↦ iei_for (bares t) ps k | some j ↦ pick (eqb j k) i (iei_for (bares t) ps k) ]) (elim o [ none ↦ iei_for t ps k | some j ↦ pick (eqb j k) i (iei_for t ps k) ])
    go none e = e
    go (some j) e = ap (pick (eqb j k) i) e
bare-iei t (not_known ∷ ps) k = bare-iei t ps k
bare-iei t (ignored r ∷ ps) k = bare-iei t ps k

bare-row : (t : List Row) (ps : List Placed) (es : List Element) (k : ℕ) → place_row (bares t) ps es k ≡ place_row t ps es k
unfolding place_row received form bare
bare-row t ps [] k = refl
bare-row t ps (e ∷ es) k = rw (bare-at t k, bare-iei t ps k, bare-row t ps es k)

bare_rows : (t : List Row) (ps : List Placed) (es : List Element) (k n : ℕ) → place_rows_from (bares t) ps es k n ≡ place_rows_from t ps es k n
unfolding place_rows_from
bare_rows t ps es k zero = refl
bare_rows t ps es k (suc n) = rw (bare-row t ps es k, bare_rows t ps es (suc k) n)

-- ---- reading

module _ (start : ℕ) (option : Bool) (part : List ℕ) (l : Lent) where
  -- by the first bad row, and rows
  read_by : Option ℕ → List Row → Read
  read_by o t =
      let p : Parted = parted t start option part in
      unless
      (refusal
      (refuse_at 4 o
      ∷ refuse (ltb most_octets (length part)) 3 []
      ∷ refuse (ltb (length l.rows) (place_width * length t)) 2 (1 ∷ [])
      ∷ cut_of p
      ∷ refuse (ltb (length l.kept) (length (kept_of (elements_of p)))) 2 (2 ∷ [])
      ∷ refuse (ltb (length l.order) (length (order_of t (elements_of p)))) 2 (3 ∷ [])
      ∷ []))
      (unread l)
      (read_elements t l (elements_of p))

  by-bares : (o : Option ℕ) (t : List Row) → read_by o (bares t) ≡ read_by o t
  unfolding read_by read_elements place_rows parted
  by-bares o t =
      let p : Parted = parted t start option part in
      rw (bare-length t, bare-parted t start option (length part) _ 0 part, bare-order t (elements_of p), bare_rows t (or_empty (order_list (order_of t (elements_of p)))) (elements_of p) 0 (length t))

pub greatest-ignored : GreatestIgnored
unfolding reading reading_checks read_by
greatest-ignored table table' start option part l e f =
    sym (by-bares start option part l (first_bad (rows_of table)) (rows_of table))
    ∙ ap₂ (read_by start option part l) f e
    ∙ by-bares start option part l (first_bad (rows_of table')) (rows_of table')
