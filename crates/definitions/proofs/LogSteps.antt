-- Both logs from a position on, by the entry there: what is left is the entry and what is left behind it, or the log is malformed.
-- By the laws of a log's first entry, at the rest of the log.
use Prim.Native.Nat.{ℕ, ◌+◌, ◌≤◌, ◌<◌}
use native.Mathlib.Omega.{arith}
use mathlib.Core.Path.{◌≡◌, refl, ap, sym, ◌∙◌}
use mathlib.Core.List.{List, [], ◌∷◌}
use mathlib.Core.Option.{Option, none, some}
use mathlib.Core.Bool.{Bool, true, false}
use borrow.Author.Tests.{ltb-true, ltb-false}
use lib.Dec.{ltb}
use lib.ListN.{length, take, drop, length-drop}
use lib.Seq.{drop-drop}
use Rattle.definitions.specs.Logs.{Placed, known_iei, not_known, ignored, Count, count_at, put, kept_list, order_entry, order_list, or_empty}
use Rattle.definitions.proofs.Logs.{entry_of, kept_by, kept-nil, kept-front, entry-at-fits}
use Rattle.definitions.proofs.Orders.{order_front, order_by, order-nil, order-front, Fits, front_fits}

-- ---- what is left of a log

-- the kept elements from a position on, and a position at which the rest of the log is well formed
unfoldable pub kept_from : List ℕ → ℕ → List (List ℕ)
kept_from kept at = or_empty (kept_list (drop at kept))

pub record KeptAt (kept : List ℕ) (at : ℕ) : Type 0 where
  pub inside : at ≤ length kept
  pub formed : kept_list (drop at kept) ≡ some (kept_from kept at)

-- the same of the entries of the order log
unfoldable pub order_from : List ℕ → ℕ → List Placed
order_from order at = or_empty (order_list (drop at order))

pub record OrderAt (order : List ℕ) (at : ℕ) : Type 0 where
  pub inside : at ≤ length order
  pub formed : order_list (drop at order) ≡ some (order_from order at)

-- the kept elements behind the next, and behind an entry of the order log: each but a known one takes the next, if there is one
unfoldable pub rest_of : List (List ℕ) → List (List ℕ)
rest_of [] = []
rest_of (e ∷ es) = es

unfoldable pub kept_after : Placed → List (List ℕ) → List (List ℕ)
kept_after (known_iei i) es = es
kept_after not_known es = rest_of es
kept_after (ignored r) es = rest_of es

-- what a list with an entry put in front is
pub record PutIs {X : Type 0} (x : X) (o : Option (List X)) (xs : List X) : Type 0 where
  pub rest : List X
  pub rest-is : o ≡ some rest
  pub both : xs ≡ x ∷ rest

pub put_is : {X : Type 0} (x : X) (o : Option (List X)) {xs : List X} → put x o ≡ some xs → PutIs x o xs
unfolding put
put_is x none e = let z : ◌≡◌ {A = ℕ} 0 1 = cc in absurd (omega arith)
put_is x (some ys) e = record { rest = ys; rest-is = refl; both = cc }

-- ---- the kept log

module _ (kept : List ℕ) (at : ℕ) where
  abbrev s : List ℕ
  s = drop at kept

  pub record KeptEntry (c : Count) : Type 0 where
    pub within : at + c.took + c.value ≤ length kept
    pub count : 1 ≤ c.took
    pub octet : 1 ≤ c.value
    pub splits : kept_list (drop at kept) ≡ put (take c.value (drop (at + c.took) kept)) (kept_list (drop (at + c.took + c.value) kept))

  pub kept-split : {c : Count} → at ≤ length kept → entry_of s (count_at s) ≡ some c → KeptEntry c
  unfolding kept_by
  kept-split {c = c} h e =
      let f = entry-at-fits s e in
      let l = length-drop at kept in
      let d : drop c.took s ≡ drop (at + c.took) kept = drop-drop c.took at kept in
      let d' : drop c.value (drop (at + c.took) kept) ≡ drop (at + c.took + c.value) kept = drop-drop c.value (at + c.took) kept in
      record {
        within = omega (arith, f.0);
        count = f.2;
        octet = f.1;
        splits = kept-front s (omega (arith, f.0, f.2)) ∙ rw (e, d, d');
      }

  pub kept-stop : at < length kept → entry_of s (count_at s) ≡ none → kept_list s ≡ none
  unfolding kept_by
  kept-stop h e = kept-front s (simp length-drop (omega arith)) ∙ rw e

  -- a log that is well formed
  pub kept_next : {c : Count} → KeptAt kept at → entry_of s (count_at s) ≡ some c
      → (kept_from kept at ≡ take c.value (drop (at + c.took) kept) ∷ kept_from kept (at + c.took + c.value)) × KeptAt kept (at + c.took + c.value)
  unfolding kept_from or_empty
  kept_next {c = c} k e =
      let t = kept-split k.inside e in
      let p = put_is (take c.value (drop (at + c.took) kept)) (kept_list (drop (at + c.took + c.value) kept)) (sym t.splits ∙ k.formed) in
      let q : kept_list (drop (at + c.took + c.value) kept) ≡ some (kept_from kept (at + c.took + c.value)) = p.rest-is ∙ ap (λ (x : Option (List (List ℕ))). some (or_empty x)) (sym p.rest-is) in
      (p.both ∙ ap (λ (x : Option (List (List ℕ))). take c.value (drop (at + c.took) kept) ∷ or_empty x) (sym p.rest-is), record { inside = t.within; formed = q })

  pub kept-over : KeptAt kept at → length kept ≤ at → kept_from kept at ≡ []
  unfolding kept_from or_empty
  kept-over k h = ap or_empty (kept-nil s (simp length-drop (omega arith)))

  pub kept-none : KeptAt kept at → entry_of s (count_at s) ≡ none → length kept ≤ at
  kept-none k e = by (ltb at (length kept)) refl
    where
      by : (b : Bool) → ltb at (length kept) ≡ b → length kept ≤ at
      by false q = ltb-false at (length kept) q
      by true q =
          let n : kept_list s ≡ none = kept-stop (ltb-true at (length kept) q) e in
          let z : ◌≡◌ {A = ℕ} 0 1 = let f = k.formed in cc in
          absurd (omega arith)

-- ---- the order log

module _ (order : List ℕ) (at : ℕ) (h : at < length order) where
  abbrev r : List ℕ
  r = drop at order

  there : 0 < length r
  there = simp length-drop (omega arith)

  pub record OrderEntry (p : Placed) : Type 0 where
    pub within : at + length (order_entry p) ≤ length order
    pub octet : 1 ≤ length (order_entry p)
    pub splits : order_list (drop at order) ≡ put p (order_list (drop (at + length (order_entry p)) order))

  pub order-split : {p : Placed} → order_front r ≡ some p → OrderEntry p
  unfolding order_by
  order-split {p = p} e =
      let f : Fits r (some p) = rw e at (front_fits r) in
      let l = length-drop at order in
      let d : drop (length (order_entry p)) r ≡ drop (at + length (order_entry p)) order = drop-drop (length (order_entry p)) at order in
      record { within = omega (arith, f.1); octet = f.0; splits = order-front r there ∙ rw (e, d) }

  pub order-stop : order_front r ≡ none → order_list r ≡ none
  unfolding order_by
  order-stop e = order-front r there ∙ rw e

  -- a log that is well formed
  pub order-next : {p : Placed} → OrderAt order at → order_front r ≡ some p
      → (order_from order at ≡ p ∷ order_from order (at + length (order_entry p))) × OrderAt order (at + length (order_entry p))
  unfolding order_from or_empty
  order-next {p = p} k e =
      let t = order-split e in
      let q = put_is p (order_list (drop (at + length (order_entry p)) order)) (sym t.splits ∙ k.formed) in
      let f : order_list (drop (at + length (order_entry p)) order) ≡ some (order_from order (at + length (order_entry p))) = q.rest-is ∙ ap (λ (x : Option (List Placed)). some (or_empty x)) (sym q.rest-is) in
      (q.both ∙ ap (λ (x : Option (List Placed)). p ∷ or_empty x) (sym q.rest-is), record { inside = t.within; formed = f })

  pub order-never : OrderAt order at → order_front r ≡ none → ⊥
  order-never k e =
      let n : order_list r ≡ none = order-stop e in
      let f = k.formed in
      let z : ◌≡◌ {A = ℕ} 0 1 = cc in
      omega arith

pub order-over : (order : List ℕ) (at : ℕ) → length order ≤ at → order_from order at ≡ []
unfolding order_from or_empty
order-over order at h = ap or_empty (order-nil (drop at order) (simp length-drop (omega arith)))
