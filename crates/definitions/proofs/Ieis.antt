-- The IEI in a place row: the order log that reading leaves gives each accepted element's place the element's own IEI.
-- Where the table says it all the log is empty and each IEI is its place's first; else the element's entry is the first of its place.
use Prim.Native.Nat.{ℕ, suc}
use mathlib.Core.Path.{◌≡◌, refl, ap, sym, ◌∙◌}
use mathlib.Core.List.{List, [], ◌∷◌, map}
use mathlib.Core.Bool.{Bool, true, false, ◌&&◌, true≢false, false≢true}
use mathlib.Core.Option.{Option, none, some}
use lib.Dec.{eqb}
use borrow.Author.Tests.{eqb-true, eq-eqb}
use Rattle.definitions.specs.Basic.{pick}
use Rattle.definitions.specs.Rows.{Row, place_of, first_iei, form, row_at}
use Rattle.definitions.specs.Elements.{Verdict, accepted, unknown, malformed, repeated, out_of_sequence, Element, Met, iei_at, is_accepted, is_at, known, stranger, parted, elements}
use Rattle.definitions.specs.Logs.{Placed, known_iei, not_known, ignored, by_form, again, late, placed_of, entries_of, plain_from, order_of, order_list, or_empty, iei_for, plain_at}
use Rattle.definitions.specs.Reading.{received, place_row}
use Rattle.definitions.proofs.RowLaws.{both}
use Rattle.definitions.proofs.PlainLaws.{plain-said}
use Rattle.definitions.proofs.LogLaws.{order_log, order-back, order-log}
use Rattle.definitions.proofs.Steps.{Stands, strange, placed, front-octets, front-first, Reads, end, more, reads}

-- ---- the order log that reading leaves

unfoldable pub entries-left : List Row → List Element → List Placed
entries-left t es = pick (plain_from t 0 es) [] (map placed_of es)

pub order-list : (t : List Row) (es : List Element) → order_list (order_of t es) ≡ some (entries-left t es)
unfolding order_of order_log entries-left
order-list t es = go (plain_from t 0 es)
  where
    go : (b : Bool) → order_list (pick b [] (entries_of es)) ≡ some (pick b [] (map placed_of es))
    go true = order-back []
    go false = rw (order-log es) (order-back (map placed_of es))

-- ---- an entry more

module _ (t : List Row) (i k : ℕ) (ps : List Placed) where
  pub iei-nowhere : place_of t i ≡ none → iei_for t (known_iei i ∷ ps) k ≡ iei_for t ps k
  unfolding iei_for
  iei-nowhere e = rw (e, iei_for)

  pub iei-known : {j : ℕ} → place_of t i ≡ some j → iei_for t (known_iei i ∷ ps) k ≡ pick (eqb j k) i (iei_for t ps k)
  unfolding iei_for
  iei-known e = rw (e, iei_for)

-- ---- the rows of places, each with its element's own IEI

unfoldable pub own_row : List Row → List Element → ℕ → List ℕ
own_row t [] k = 0 ∷ 0 ∷ 0 ∷ 0 ∷ []
own_row t (e ∷ es) k = pick (is_accepted e.verdict && is_at k e) (received t (iei_at e) k e) (own_row t es k)

at-is : (k : ℕ) (e : Element) → is_at k e ≡ true → e.place ≡ some k
unfolding is_at
at-is k e h = by e.place h
  where
    by : (p : Option ℕ) → elim p [ none ↦ false | some j ↦ eqb j k ] ≡ true → p ≡ some k
    by none h = absurd (false≢true h)
    by (some j) h = ap some (eqb-true j k h)

-- where the table says it all
plain-tail : (t : List Row) (least : ℕ) (e : Element) (es : List Element) → plain_from t least (e ∷ es) ≡ true
    → ((next : ℕ) × (plain_from t next es ≡ true)) × ((k : ℕ) → e.place ≡ some k → iei_at e ≡ first_iei t k)
unfolding plain_from
plain-tail t least e es h = by e.place h
  where
    by : (p : Option ℕ) → elim p [ none ↦ false | some k ↦ plain_at t least k e && plain_from t (suc k) es ] ≡ true
        → ((next : ℕ) × (plain_from t next es ≡ true)) × ((k : ℕ) → p ≡ some k → iei_at e ≡ first_iei t k)
    by none h = absurd (false≢true h)
    by (some j) h =
        let a = both (plain_at t least j e) (plain_from t (suc j) es) h in
        ((suc j, a.1), λ k q. let i : j ≡ k = cc in (plain-said t least j e a.0).first ∙ ap (first_iei t) i)

own-plain : (t : List Row) (k least : ℕ) (es : List Element) → plain_from t least es ≡ true → place_row t [] es k ≡ own_row t es k
unfolding place_row own_row iei_for
own-plain t k least [] h = refl
own-plain t k least (e ∷ es) h =
    let f = plain-tail t least e es h in
    by (is_accepted e.verdict && is_at k e) refl f.1 (own-plain t k f.0.0 es f.0.1)
  where
    by : (b : Bool) → (is_accepted e.verdict && is_at k e) ≡ b → ((k : ℕ) → e.place ≡ some k → iei_at e ≡ first_iei t k) → place_row t [] es k ≡ own_row t es k
        → pick b (received t (first_iei t k) k e) (place_row t [] es k) ≡ pick b (received t (iei_at e) k e) (own_row t es k)
    by true q f r = ap (λ (i : ℕ). received t i k e) (sym (f k (at-is k e (both (is_accepted e.verdict) (is_at k e) q).1)))
    by false q f r = r

-- where the log has an entry for each element
module _ (t : List Row) (e : Element) (k : ℕ) (qs : List Placed) where
  entry-aside : is_accepted e.verdict ≡ false → iei_for t (placed_of e ∷ qs) k ≡ iei_for t qs k
  unfolding placed_of iei_for is_accepted
  entry-aside a = by e.verdict a
    where
      by : (v : Verdict) → is_accepted v ≡ false
          → iei_for t (elim v [ accepted ↦ known_iei (iei_at e) | unknown ↦ not_known | malformed ↦ ignored by_form | repeated ↦ ignored again | out_of_sequence ↦ ignored late ] ∷ qs) k ≡ iei_for t qs k
      by accepted a = absurd (true≢false a)
      by unknown a = refl
      by malformed a = refl
      by repeated a = refl
      by out_of_sequence a = refl

  entry-is : is_accepted e.verdict ≡ true → placed_of e ≡ known_iei (iei_at e)
  unfolding placed_of is_accepted
  entry-is a = by e.verdict a
    where
      by : (v : Verdict) → is_accepted v ≡ true
          → elim v [ accepted ↦ known_iei (iei_at e) | unknown ↦ not_known | malformed ↦ ignored by_form | repeated ↦ ignored again | out_of_sequence ↦ ignored late ] ≡ known_iei (iei_at e)
      by accepted a = refl
      by unknown a = absurd (false≢true a)
      by malformed a = absurd (false≢true a)
      by repeated a = absurd (false≢true a)
      by out_of_sequence a = absurd (false≢true a)

  -- an accepted element's IEI has its place
  Given : Type 0
  Given = is_accepted e.verdict ≡ true → place_of t (iei_at e) ≡ e.place

  entry_here : Given → (is_accepted e.verdict && is_at k e) ≡ true → iei_for t (placed_of e ∷ qs) k ≡ iei_at e
  unfolding Given
  entry_here g h =
      let a = both (is_accepted e.verdict) (is_at k e) h in
      rw (entry-is a.0) (iei-known t (iei_at e) k qs (g a.0 ∙ at-is k e a.1) ∙ rw (eq-eqb k k refl))

  entry_past : Given → (is_accepted e.verdict && is_at k e) ≡ false → iei_for t (placed_of e ∷ qs) k ≡ iei_for t qs k
  unfolding Given is_at
  entry_past g h = by (is_accepted e.verdict) refl h
    where
      other : (p : Option ℕ) → place_of t (iei_at e) ≡ p → elim p [ none ↦ false | some j ↦ eqb j k ] ≡ false → iei_for t (known_iei (iei_at e) ∷ qs) k ≡ iei_for t qs k
      other none q f = iei-nowhere t (iei_at e) k qs q
      other (some j) q f = iei-known t (iei_at e) k qs q ∙ rw f

      by : (b : Bool) → is_accepted e.verdict ≡ b → (b && elim e.place [ none ↦ false | some j ↦ eqb j k ]) ≡ false → iei_for t (placed_of e ∷ qs) k ≡ iei_for t qs k
      by false a f = entry-aside a
      by true a f = rw (entry-is a) (other e.place (g a) f)

given : {t : List Row} {start : ℕ} {option : Bool} {m m' : Met} {at : ℕ} {s : List ℕ} {e : Element} → Stands t start option m at s e m' → (k : ℕ) (qs : List Placed) → Given t e k qs
unfolding Given stranger known is_accepted iei_at
given (strange p r) k qs a = absurd (false≢true a)
given {t = t} (placed {x = x} {xs = xs} j p) k qs a = rw (front-first (front-octets (form (row_at t j)) x xs)) p

own-logged : {t : List Row} {start : ℕ} {option : Bool} {m : Met} {at : ℕ} {s : List ℕ} {es : List Element} → Reads t start option m at s es
    → (k : ℕ) (ps : List Placed) → iei_for t ps k ≡ iei_for t (map placed_of es) k → place_row t ps es k ≡ own_row t es k
unfolding place_row own_row
own-logged end k ps h = refl
own-logged {t = t} (more {e = e} {es = es} d r) k ps h =
    by (is_accepted e.verdict && is_at k e) refl (given d k (map placed_of es)) (own-logged r k ps)
  where
    by : (b : Bool) → (is_accepted e.verdict && is_at k e) ≡ b → Given t e k (map placed_of es) → (iei_for t ps k ≡ iei_for t (map placed_of es) k → place_row t ps es k ≡ own_row t es k)
        → pick b (received t (iei_for t ps k) k e) (place_row t ps es k) ≡ pick b (received t (iei_at e) k e) (own_row t es k)
    by true q g r = ap (λ (i : ℕ). received t i k e) (h ∙ entry_here t e k (map placed_of es) g q)
    by false q g r = r (h ∙ entry_past t e k (map placed_of es) g q)

-- so reading enters each element's own
pub own-row : (t : List Row) (start : ℕ) (option : Bool) (part : List ℕ) (es : List Element) → parted t start option part ≡ elements es
    → (k : ℕ) → place_row t (or_empty (order_list (order_of t es))) es k ≡ own_row t es k
unfolding or_empty entries-left
own-row t start option part es e k = rw (order-list t es) (by (plain_from t 0 es) refl)
  where
    by : (b : Bool) → plain_from t 0 es ≡ b → place_row t (pick b [] (map placed_of es)) es k ≡ own_row t es k
    by true p = own-plain t k 0 es p
    by false p = own-logged (reads t start option e) k (map placed_of es) refl
