-- The names of a well-formed log, by the index of a table that passes, are places that it logs.
-- By induction on the entries: each adds the place of its IEI, or nothing.
use Prim.Native.Nat.{ℕ, zero, suc, ◌≤◌}
use native.Mathlib.Omega.{arith}
use mathlib.Core.Path.{◌≡◌, refl, ap, sym, ◌∙◌}
use mathlib.Core.List.{List, [], ◌∷◌}
use mathlib.Core.Bool.{Bool, true, false, ◌||◌, or-true, or-false, false≢true}
use mathlib.Core.Option.{Option, none, some, none-ne-some, some-injective}
use lib.ListN.{length}
use lib.Dec.{eqb, ltb}
use Rattle.definitions.specs.Basic.{pick, bit, among}
use Rattle.definitions.specs.Elements.{including}
use Rattle.definitions.specs.Rows.{Row, first_bad, place_of, index}
use Rattle.definitions.specs.Logs.{Placed, known_iei, not_known, ignored, by_form, again, late, put, order_list_f, order_list}
use Rattle.definitions.specs.Writing.{logged}
use Rattle.definitions.proofs.BitLaws.{bit-including, no-bit}
use Rattle.definitions.proofs.TableLaws.{index_same}
use Rattle.seen.specs.Seen.{including_place}
use Rattle.unnamed.specs.Named.{with_iei, named, falls_from, names}
use Rattle.unnamed.proofs.Naming.{with-place, names-by}

bit-place : (j k set : ℕ) → bit j (including_place k set) ≡ true → (eqb j k || bit j set) ≡ true
unfolding including_place
bit-place j k set e = by (ltb k 128) e
  where
    by : (b : Bool) → bit j (pick b (including k set) set) ≡ true → (eqb j k || bit j set) ≡ true
    by true f = sym (bit-including j k set) ∙ f
    by false f = rw f (or-true (eqb j k))

-- either is among the logged, or in the set before
moved : (e a b c : Bool) → (a || c) ≡ true → (c ≡ true → (e || b) ≡ true) → ((e || a) || b) ≡ true
moved true a b c f g = refl
moved false true b c f g = refl
moved false false b c f g = g f

module _ (t : List Row) (passes : first_bad t ≡ none) (j : ℕ) where
  -- a known entry
  known-one : (i set : ℕ) (js : List ℕ) (o : Option ℕ) → place_of t i ≡ o → (among j js || bit j (with_iei (index t) i set)) ≡ true → (among j (elim o [ none ↦ js | some k ↦ k ∷ js ]) || bit j set) ≡ true
  unfolding among
  known-one i set js none q e = rw (with-place (index t) i set (index_same t passes i ∙ q)) at e
  known-one i set js (some k) q e =
      moved (eqb j k) (among j js) (bit j set) (bit j (with_iei (index t) i set)) e (λ b. bit-place j k set (ap (bit j) (sym (with-place (index t) i set (index_same t passes i ∙ q))) ∙ b))

  -- what the entries that are left say, with one more of an element that no row took
  abbrev Said : List ℕ → ℕ → Option (List Placed) → Type 0
  Said s set o = (ps : List Placed) → o ≡ some ps → bit j (named (index t) set s) ≡ true → (among j (logged t ps) || bit j set) ≡ true

  aside-one : (s : List ℕ) (set : ℕ) (p : Placed) → ((ps : List Placed) → logged t (p ∷ ps) ≡ logged t ps) → (o : Option (List Placed)) → Said s set o → Said s set (put p o)
  unfolding put
  aside-one s set p l none r ps e b = absurd (none-ne-some _ e)
  aside-one s set p l (some qs) r ps e b = rw (sym (some-injective _ _ e), l qs) (r qs refl b)

  known_more : (s : List ℕ) (set i : ℕ) (o : Option (List Placed)) → Said s (with_iei (index t) i set) o
      → (ps : List Placed) → put (known_iei i) o ≡ some ps → bit j (named (index t) (with_iei (index t) i set) s) ≡ true → (among j (logged t ps) || bit j set) ≡ true
  unfolding put logged
  known_more s set i none r ps e b = absurd (none-ne-some _ e)
  known_more s set i (some qs) r ps e b = rw (sym (some-injective _ _ e)) (known-one i set (logged t qs) (place_of t i) refl (r qs refl b))

  named-one : (f : ℕ) (s : List ℕ) → length s ≤ f → (set : ℕ) → Said s set (order_list_f f s)
  unfolding order_list_f named logged among
  named-one zero [] h set ps e b = rw (sym (some-injective _ _ e)) b
  named-one zero (x ∷ s) h set ps e b = absurd (omega arith)
  named-one (suc f) [] h set ps e b = rw (sym (some-injective _ _ e)) b
  named-one (suc f) (zero ∷ []) h set ps e b = absurd (none-ne-some _ e)
  named-one (suc f) (zero ∷ i ∷ s) h set ps e b = known_more s set i (order_list_f f s) (named-one f s (omega arith) (with_iei (index t) i set)) ps e b
  named-one (suc f) (suc zero ∷ s) h set ps e b = aside-one s set not_known (λ qs. refl) (order_list_f f s) (named-one f s (omega arith) set) ps e b
  named-one (suc f) (suc (suc zero) ∷ s) h set ps e b = aside-one s set (ignored by_form) (λ qs. refl) (order_list_f f s) (named-one f s (omega arith) set) ps e b
  named-one (suc f) (suc (suc (suc zero)) ∷ s) h set ps e b = aside-one s set (ignored again) (λ qs. refl) (order_list_f f s) (named-one f s (omega arith) set) ps e b
  named-one (suc f) (suc (suc (suc (suc zero))) ∷ s) h set ps e b = aside-one s set (ignored late) (λ qs. refl) (order_list_f f s) (named-one f s (omega arith) set) ps e b
  named-one (suc f) (suc (suc (suc (suc (suc n)))) ∷ s) h set ps e b = absurd (none-ne-some _ e)

  -- a place that is named is logged
  pub names-logged : (rows order : List ℕ) (n : ℕ) (ps : List Placed) → order_list order ≡ some ps → bit j (names (index t) rows order n) ≡ true → among j (logged t ps) ≡ true
  unfolding order_list
  names-logged rows order n ps e b = by (falls_from rows 0 n 0) refl
    where
      by : (f : Bool) → falls_from rows 0 n 0 ≡ f → among j (logged t ps) ≡ true
      by true q =
          let w = named-one (length order) order (omega arith) 0 ps e (ap (bit j) (sym (names-by (index t) rows order n q)) ∙ b) in
          sym (or-false (among j (logged t ps))) ∙ (rw (no-bit j) at w)
      by false q = absurd (false≢true (sym (no-bit j) ∙ ap (bit j) (sym (names-by (index t) rows order n q)) ∙ b))
