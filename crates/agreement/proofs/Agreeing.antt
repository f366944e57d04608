-- The rows judged an entry of the order log at a time. The first entry of a place gives its IEI, so the place's row is judged by it and
-- joins the set; an entry of a place in the set changes nothing. What is left at the end has the places' first IEIs.
use Prim.Native.Nat.{ℕ, ◌/◌, ◌^◌, ◌<◌}
use native.Mathlib.Nat.{zero-div}
use mathlib.Core.Path.{◌≡◌, refl, ap, sym, ◌∙◌}
use mathlib.Core.List.{List, [], ◌∷◌}
use mathlib.Core.Bool.{Bool, true, false, ◌&&◌, ◌||◌, not, true≢false, false≢true}
use mathlib.Core.Option.{Option, none, some}
use borrow.Author.Tests.{eqb-true, eq-eqb}
use lib.ListN.{length}
use lib.Dec.{eqb}
use Rattle.definitions.specs.Basic.{pick, bit}
use Rattle.definitions.specs.Rows.{Row, first_iei, first_bad, place_of}
use Rattle.definitions.specs.Elements.{including}
use Rattle.definitions.specs.Logs.{Placed, known_iei, not_known, ignored, iei_for}
use Rattle.definitions.specs.Values.{value_at, unlike, any_of, apart_at, apart}
use Rattle.definitions.proofs.BitLaws.{bit-including}
use Rattle.definitions.proofs.RowLaws.{listed}
use Rattle.definitions.proofs.Ieis.{iei-nowhere, iei-known}
use Rattle.definitions.proofs.Checks.{neither, first-same, one_of}
use Rattle.agreement.specs.Agreed.{apart_by, known_set, known_apart, entry_set, entry_apart, Agreeing}

pub no-bit : (k : ℕ) → bit k 0 ≡ false
unfolding bit
no-bit k = let z : 0 / 2 ^ k ≡ 0 = zero-div (2 ^ k) in rw z

module _ (t : List Row) (rows : List ℕ) (all : List Placed) where
  pub agreeing-begun : Agreeing t rows all all 0 false
  agreeing-begun = record { ahead = λ k e. refl; agreed = λ e k b. absurd (false≢true (sym (no-bit k) ∙ b)); found = λ e. absurd (false≢true e) }

  module _ (passes : first_bad t ≡ none) (left : List Placed) (set : ℕ) (apart' : Bool) where
    -- an entry that gives no IEI
    same_left : {p : Placed} → ((k : ℕ) → iei_for t (p ∷ left) k ≡ iei_for t left k) → Agreeing t rows all (p ∷ left) set apart' → Agreeing t rows all left set apart'
    same_left h a = record { ahead = λ k e. sym (h k) ∙ a.ahead k e; agreed = a.agreed; found = a.found }

    -- an entry of a place
    module _ (i j : ℕ) (e : place_of t i ≡ some j) (a : Agreeing t rows all (known_iei i ∷ left) set apart') where
      -- the IEI of the place, if it was not seen
      pub its-iei : bit j set ≡ false → iei_for t all j ≡ i
      its-iei b = sym (a.ahead j b) ∙ iei-known t i j left e ∙ rw (eq-eqb j j refl)

      its-row : bit j set ≡ false → unlike (value_at rows j) i ≡ apart_at t all rows j
      unfolding apart_at
      its-row b = ap (unlike (value_at rows j)) (sym (its-iei b))

      ahead' : (k : ℕ) → bit k (including j set) ≡ false → iei_for t left k ≡ iei_for t all k
      ahead' k b =
          let n = neither (eqb k j) (bit k set) (sym (bit-including k j set) ∙ b) in
          sym (iei-known t i k left e ∙ ap (λ (x : Bool). pick x i (iei_for t left k)) (other k n.0)) ∙ a.ahead k n.1
        where
          other : (k : ℕ) → eqb k j ≡ false → eqb j k ≡ false
          other k q = by (eqb j k) refl
            where
              by : (b : Bool) → eqb j k ≡ b → b ≡ false
              by false p = refl
              by true p = absurd (true≢false (sym (eq-eqb k j (sym (eqb-true j k p))) ∙ q))

      agreed' : (apart' || apart_by rows set j i) ≡ false → (k : ℕ) → bit k (including j set) ≡ true → apart_at t all rows k ≡ false
      unfolding apart_by
      agreed' h k b = by (bit k set) refl (neither apart' (apart_by rows set j i) h)
        where
          here : (x : Bool) → bit j set ≡ x → (not x && unlike (value_at rows j) i) ≡ false → apart' ≡ false → apart_at t all rows j ≡ false
          here true q f n = a.agreed n j q
          here false q f n = sym (its-row q) ∙ f

          by : (x : Bool) → bit k set ≡ x → (apart' ≡ false) × (apart_by rows set j i ≡ false) → apart_at t all rows k ≡ false
          by true q n = a.agreed n.0 k q
          by false q n =
              let z : eqb k j ≡ true = is-here (eqb k j) (sym (bit-including k j set ∙ ap (λ (y : Bool). eqb k j || y) q) ∙ b) in
              rw (eqb-true k j z) (here (bit j set) refl n.1 n.0)
            where
              is-here : (y : Bool) → (y || false) ≡ true → y ≡ true
              is-here true h = refl
              is-here false h = absurd (false≢true h)

      found' : (apart' || apart_by rows set j i) ≡ true → (k : ℕ) × (k < length t) × (apart_at t all rows k ≡ true)
      unfolding apart_by
      found' h = by apart' refl h
        where
          new : (x : Bool) → bit j set ≡ x → (not x && unlike (value_at rows j) i) ≡ true → (k : ℕ) × (k < length t) × (apart_at t all rows k ≡ true)
          new true q f = absurd (false≢true f)
          new false q f = (j, (listed t i j passes e).inside, sym (its-row q) ∙ f)

          by : (x : Bool) → apart' ≡ x → (x || (not (bit j set) && unlike (value_at rows j) i)) ≡ true → (k : ℕ) × (k < length t) × (apart_at t all rows k ≡ true)
          by true q f = a.found q
          by false q f = new (bit j set) refl f

      at_place : Agreeing t rows all left (including j set) (apart' || apart_by rows set j i)
      at_place = record { ahead = ahead'; agreed = agreed'; found = found' }

    pub agreeing-step : (p : Placed) → Agreeing t rows all (p ∷ left) set apart' → Agreeing t rows all left (entry_set t p set) (entry_apart t rows p set apart')
    unfolding entry_set entry_apart iei_for
    agreeing-step (known_iei i) a = by (place_of t i) refl
      where
        by : (o : Option ℕ) → place_of t i ≡ o → Agreeing t rows all left (known_set set o) (known_apart rows set apart' i o)
        by none e = same_left (λ k. iei-nowhere t i k left e) a
        by (some j) e = at_place i j e a
    agreeing-step not_known a = same_left (λ k. refl) a
    agreeing-step (ignored r) a = same_left (λ k. refl) a

  -- ---- at the end

  module _ (set : ℕ) where
    pub found-apart : Agreeing t rows all [] set true → apart t all rows ≡ true
    unfolding apart
    found-apart a = let f = a.found refl in one_of (apart_at t all rows) (length t) f.0 f.1 f.2

    module _ (a : Agreeing t rows all [] set false) where
      pub rest-apart : (k : ℕ) → apart_by rows set k (first_iei t k) ≡ apart_at t all rows k
      unfolding apart_by apart_at iei_for
      rest-apart k = by (bit k set) refl
        where
          by : (b : Bool) → bit k set ≡ b → (not b && unlike (value_at rows k) (first_iei t k)) ≡ unlike (value_at rows k) (iei_for t all k)
          by true e = sym (a.agreed refl k e)
          by false e = ap (unlike (value_at rows k)) (a.ahead k e)

      pub all_apart : any_of (λ k. apart_by rows set k (first_iei t k)) (length t) ≡ apart t all rows
      unfolding apart
      all_apart = rw (first-same (λ k. apart_by rows set k (first_iei t k)) (apart_at t all rows) 0 (length t) (λ k x y. rest-apart k))
