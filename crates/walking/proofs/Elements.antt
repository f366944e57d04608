-- The element of a place by its row as the code has it, and the elements of a kept log by the entry at its front.
-- Each by the tests that the definition makes; the octets of a log are count enough for it.
use Prim.Native.Nat.{ℕ, zero, suc, ◌+◌, ◌-◌, ◌≤◌}
use native.Mathlib.Omega.{arith}
use mathlib.Core.Path.{◌≡◌, refl, ap, sym, ◌∙◌}
use mathlib.Core.List.{List, [], ◌∷◌}
use mathlib.Core.Bool.{Bool, true, false}
use mathlib.Core.Option.{Option, none, some, none-ne-some}
use borrow.Author.Tests.{le-leb, ltb-true, ltb-false}
use lib.ListN.{length, take, drop, length-drop}
use lib.Seq.{drop-drop}
use lib.Dec.{ltb}
use borrow.Rule.Slice.PartMut.{put_mid}
use Rattle.definitions.specs.Basic.{pick}
use Rattle.definitions.specs.Rows.{Form, form_of}
use Rattle.definitions.specs.Values.{value_at, present, octets_at}
use Rattle.definitions.specs.Logs.{Count, count_at, kept_list}
use Rattle.definitions.specs.Writing.{encoded}
use Rattle.definitions.proofs.Logs.{entry_of, entry-at-fits, kept-nil}
use Rattle.definitions.proofs.LogSteps.{kept-split, kept-stop, put_is}
use Rattle.rows.specs.Numbers.{numbers_at}
use Rattle.rows.specs.declared.columns.Numbers.{Numbers}
use Rattle.values.specs.Rows.{value_of, sources_of}
use Rattle.values.specs.declared.row.ValueRow.{ValueRow}
use Rattle.std.specs.Prelude.{Option as Answered}
use Rattle.std.specs.Option.{unwrap_or}
use Rattle.putting.specs.Puts.{writable, puts, PutIf}
use Rattle.placing.specs.Pieces.{Lent, lent_of}
use Rattle.walking.specs.Walks.{element_by, elements_then, elements_f, elements_from, Lays}
use Rattle.walking.proofs.Laying.{lays-put}

-- ---- a place

module _ (table rows received set : List ℕ) (k iei : ℕ) (row : ValueRow) (e : value_of row ≡ value_at rows k) where
  abbrev m : Lent
  m = lent_of table rows received set

  pub element-absent : row.source ≡ 0 → element_by m k iei ≡ []
  unfolding element_by present
  element-absent z = rw (← e, z)

  module _ (there : row.source ≡ 0 → ⊥) {f : Form} {n : Numbers} {s : List ℕ} (n-is : n ≡ numbers_at table k) (f-is : f ≡ form_of n.code n.size) (s-is : s ≡ octets_at (sources_of received set) (value_of row)) where
    element-there : element_by m k iei ≡ pick (writable f row.source iei s) (encoded f iei s) []
    unfolding element_by present
    element-there = rw (← e, le-leb 1 row.source (omega (arith, there)), f-is, n-is, s-is)

    pub element-put : (at : ℕ) (d : List ℕ) {r : Answered ℕ} {ys : List ℕ} → at ≤ length d
        → PutIf (puts f row.source iei s (take (length d - at) (drop at d))) (encoded f iei s) (take (length d - at) (drop at d)) r ys
        → Lays (element_by m k iei ∷ []) at d (at + unwrap_or r 0) (put_mid at (length d - at) d ys)
    unfolding puts
    element-put at d h p = rw element-there (lays-put at d h (encoded f iei s) (writable f row.source iei s) p)

-- ---- the kept log

none-there : (s : List ℕ) → length s ≡ 0 → entry_of s (count_at s) ≡ none
none-there s h = by (entry_of s (count_at s)) refl
  where
    by : (o : Option Count) → entry_of s (count_at s) ≡ o → o ≡ none
    by none e = refl
    by (some c) e = let f = entry-at-fits s e in absurd (omega (arith, f.0, f.1))

elements-stopped : (f : ℕ) (s : List ℕ) → entry_of s (count_at s) ≡ none → elements_f f s ≡ []
unfolding elements_f elements_then
elements-stopped zero s e = refl
elements-stopped (suc f) s e = ap (elements_then s (elements_f f)) e

-- the rest matters only at what is shorter
elements-rest : (f g : ℕ) (s : List ℕ) (o : Option Count) → entry_of s (count_at s) ≡ o → length s ≤ suc f → length s ≤ suc g
    → ((t : List ℕ) → length t ≤ f → length t ≤ g → elements_f f t ≡ elements_f g t) → elements_then s (elements_f f) o ≡ elements_then s (elements_f g) o
unfolding elements_then
elements-rest f g s none e h k r = refl
elements-rest f g s (some c) e h k r =
    let t = entry-at-fits s e in
    let l : length (drop c.value (drop c.took s)) ≤ length s - 1 = simp length-drop (omega (arith, t.2)) in
    ap (λ (es : List (List ℕ)). take c.value (drop c.took s) ∷ es) (r (drop c.value (drop c.took s)) (omega (arith, t.0, t.2)) (omega (arith, t.0, t.2)))

elements-fuel : (f g : ℕ) (s : List ℕ) → length s ≤ f → length s ≤ g → elements_f f s ≡ elements_f g s
unfolding elements_f
elements-fuel zero g s h k = sym (elements-stopped g s (none-there s (omega arith)))
elements-fuel (suc f) zero s h k = elements-stopped (suc f) s (none-there s (omega arith))
elements-fuel (suc f) (suc g) s h k = elements-rest f g s (entry_of s (count_at s)) refl h k (λ t. elements-fuel f g t)

-- each takes an octet or more
elements-count : (f : ℕ) (s : List ℕ) → length (elements_f f s) ≤ f
unfolding elements_f elements_then
elements-count zero s = omega arith
elements-count (suc f) s = by (entry_of s (count_at s)) (λ t. elements-count f t)
  where
    by : (o : Option Count) → ((t : List ℕ) → length (elements_f f t) ≤ f) → length (elements_then s (elements_f f) o) ≤ suc f
    by none r = omega arith
    by (some c) r = omega (arith, r (drop c.value (drop c.took s)))

module _ (kept : List ℕ) (at : ℕ) where
  abbrev s : List ℕ
  s = drop at kept

  pub elements-none : entry_of (drop at kept) (count_at (drop at kept)) ≡ none → elements_from kept at ≡ []
  unfolding elements_from
  elements-none e = elements-stopped (length (drop at kept)) (drop at kept) e

  pub elements-few : length (elements_from kept at) ≤ length kept
  unfolding elements_from
  elements-few = omega (arith, elements-count (length s) s, length-drop at kept)

  pub elements-over : length kept ≤ at → elements_from kept at ≡ []
  elements-over h = elements-none (none-there (drop at kept) (simp length-drop (omega arith)))

  pub elements-next : {c : Count} → entry_of (drop at kept) (count_at (drop at kept)) ≡ some c → elements_from kept at ≡ take c.value (drop (at + c.took) kept) ∷ elements_from kept (at + c.took + c.value)
  unfolding elements_from elements_f elements_then
  elements-next {c = c} e = by (length s) refl
    where
      t : drop c.took s ≡ drop (at + c.took) kept
      t = drop-drop c.took at kept

      t' : drop c.value (drop (at + c.took) kept) ≡ drop (at + c.took + c.value) kept
      t' = drop-drop c.value (at + c.took) kept

      by : (f : ℕ) → length s ≡ f → elements_f f s ≡ take c.value (drop (at + c.took) kept) ∷ elements_f (length (drop (at + c.took + c.value) kept)) (drop (at + c.took + c.value) kept)
      by zero h = let g = entry-at-fits s e in absurd (omega (arith, g.0, g.1))
      by (suc f) h =
          let g = entry-at-fits s e in
          let l : length (drop (at + c.took + c.value) kept) ≤ f = simp length-drop (omega (arith, length-drop at kept, g.0, g.2)) in
          ap (elements_then s (elements_f f)) e ∙ rw (t, t') (ap (λ (es : List (List ℕ)). take c.value (drop (at + c.took) kept) ∷ es) (elements-fuel f (length (drop (at + c.took + c.value) kept)) (drop (at + c.took + c.value) kept) l (omega arith)))

-- ---- of a log that is well formed they are all

module _ (kept : List ℕ) where
  none_left : (at : ℕ) {ks : List (List ℕ)} → entry_of (drop at kept) (count_at (drop at kept)) ≡ none → kept_list (drop at kept) ≡ some ks → ks ≡ []
  none_left at {ks = ks} e q = by (ltb at (length kept)) refl
    where
      by : (b : Bool) → ltb at (length kept) ≡ b → ks ≡ []
      by true f = absurd (none-ne-some _ (sym (kept-stop kept at (ltb-true at (length kept) f) e) ∙ q))
      by false f = let z = kept-nil (drop at kept) (simp length-drop (omega (arith, ltb-false at (length kept) f))) in cc

  pub elements-are : (ks : List (List ℕ)) (at : ℕ) → at ≤ length kept → kept_list (drop at kept) ≡ some ks → elements_from kept at ≡ ks
  elements-are [] at h q = by (entry_of (drop at kept) (count_at (drop at kept))) refl
    where
      by : (o : Option Count) → entry_of (drop at kept) (count_at (drop at kept)) ≡ o → elements_from kept at ≡ []
      by none e = elements-none kept at e
      by (some c) e =
          let t = kept-split kept at h e in
          let p = put_is (take c.value (drop (at + c.took) kept)) (kept_list (drop (at + c.took + c.value) kept)) (sym t.splits ∙ q) in
          let f = p.both in
          absurd (omega (arith, ap length f))
  elements-are (k ∷ ks) at h q = by (entry_of (drop at kept) (count_at (drop at kept))) refl (elements-are ks)
    where
      by : (o : Option Count) → entry_of (drop at kept) (count_at (drop at kept)) ≡ o → ((at : ℕ) → at ≤ length kept → kept_list (drop at kept) ≡ some ks → elements_from kept at ≡ ks) → elements_from kept at ≡ k ∷ ks
      by none e r = elements-none kept at e ∙ sym (none_left at e q)
      by (some c) e r =
          let t = kept-split kept at h e in
          let p = put_is (take c.value (drop (at + c.took) kept)) (kept_list (drop (at + c.took + c.value) kept)) (sym t.splits ∙ q) in
          let z : p.rest ≡ ks = let f = p.both in cc in
          elements-next kept at e ∙ ap (λ (es : List (List ℕ)). take c.value (drop (at + c.took) kept) ∷ es) (r (at + c.took + c.value) t.within (rw z at p.rest-is) ∙ sym z) ∙ sym p.both
