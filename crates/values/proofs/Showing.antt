-- Showing a value: a row by its source, every row in turn, and what is shown after the checks.
-- Each law settles the tests before it.
use Prim.Native.Nat.{ℕ, zero, suc, ◌+◌, ◌-◌, ◌*◌, ◌≤◌, ◌<◌, min}
use native.Mathlib.Omega.{arith}
use native.Mathlib.Numerals.{add-one}
use mathlib.Core.Path.{◌≡◌, refl, ap, sym, ◌∙◌}
use mathlib.Core.List.{List, [], ◌∷◌}
use mathlib.Core.Bool.{Bool, true, false, ◌&&◌, not}
use mathlib.Core.Option.{Option, none, some}
use borrow.Author.Tests.{le-leb, lt-leb, eqb-true, eqb-false, ltb-true, ltb-false}
use lib.ListN.{length, get_or, take, drop}
use lib.Seq.{take-nil, drop-nil, get_or-drop}
use lib.Dec.{leb, ltb, eqb}
use denote.Ref.{Bor}
use Rattle.std.proofs.lemmas.List.{drop_all}
use Rattle.definitions.proofs.Lists.{to_end}
use Rattle.definitions.specs.Basic.{pick, Answer, answer, refuse, refusal, unless, Used, content}
use Rattle.definitions.specs.Rows.{Form, rows_of, row_at, form}
use Rattle.definitions.specs.Values.{Octets, Value, mandatory_width, value_in, value_at, present, source_of, octets_at, good_value, first_from, fits, unfit_at, place_checks, shown_by, showing}
use Rattle.values.specs.Checks.{long_with}
use Rattle.values.specs.Shows.{shown_row}
use Rattle.octets.specs.Places.{StandsAt}
use Rattle.values.specs.Rows.{sources_of, PlacedAs}
use Rattle.values.proofs.Checking.{refusal-append, long-none}

-- ---- the numbers of a row

-- those behind a position are those of the row there; of a mandatory row, without an IEI
pub value-from : (w : ℕ) (rows : List ℕ) (k : ℕ) → value_in w (drop (w * k) rows) 0 ≡ value_in w rows k
unfolding value_in
value-from w rows k =
    let z : w * 0 ≡ 0 = omega arith in
    let y : w * k + 0 ≡ w * k = omega arith in
    let d : (j : ℕ) → get_or (drop (w * k) rows) j 0 ≡ get_or rows (w * k + j) 0 = λ j. get_or-drop (w * k) rows j 0 in
    rw z (rw (d 0 ∙ ap (λ (n : ℕ). get_or rows n 0) y, d 1, d 2, d 3))

-- those at the front, one by one; and as those of a mandatory row
pub front-is : (s : List ℕ) {a b c d : ℕ} → a ≡ get_or s 0 0 → b ≡ get_or s 1 0 → c ≡ get_or s 2 0 → d ≡ get_or s 3 0 → ◌≡◌ {A = Value} (record { source = a; start = b; size = c; iei = d }) (value_at s 0)
unfolding value_in
front-is s e f g h = rw (e, f, g, h)

pub value-plain : (s : List ℕ) {v : Value} → v ≡ value_at s 0 → record { source = v.source; start = v.start; size = v.size; iei = 0 } ≡ value_in mandatory_width s 0
unfolding value_in
value-plain s e = ap (λ (w : Value). record { source = w.source; start = w.start; size = w.size; iei = 0 }) e

-- the numbers from a position on, which may be past their end, and past the machine's numbers
pub drop-capped : (n m : ℕ) (s : List ℕ) → m ≡ min (min n 18446744073709551615) (length s) → length s < 18446744073709551616 → take (length s - m) (drop m s) ≡ drop n s
drop-capped n m s e h = to_end m s ∙ by (ltb (length s) n) refl
  where
    by : (b : Bool) → ltb (length s) n ≡ b → drop m s ≡ drop n s
    by true q =
        let l = ltb-true (length s) n q in
        drop_all m s (omega arith) ∙ sym (drop_all n s (omega arith))
    by false q =
        let l = ltb-false (length s) n q in
        let z : m ≡ n = omega arith in
        ap (λ (k : ℕ). drop k s) z

-- ---- a row by its source

module _ (o : Octets) (v : Value) where
  pub good-over : 2 < v.source → good_value o v ≡ false
  unfolding good_value
  good-over h = rw (lt-leb v.source 2 h)

  pub good-absent : v.source ≡ 0 → good_value o v ≡ (eqb v.start 0 && (eqb v.size 0 && eqb v.iei 0))
  unfolding good_value present
  good-absent e = rw e

  pub good-received : v.source ≡ 1 → good_value o v ≡ leb (v.start + v.size) (length o.received)
  unfolding good_value present source_of
  good-received e = rw e

  pub good-set : v.source ≡ 2 → good_value o v ≡ leb (v.start + v.size) (length o.set)
  unfolding good_value present source_of
  good-set e = rw e

  pub good-present : 1 ≤ v.source → v.source ≤ 2 → good_value o v ≡ leb (v.start + v.size) (pick (eqb v.source 1) (length o.received) (length o.set))
  good-present h i = by (eqb v.source 1) refl
    where
      by : (b : Bool) → eqb v.source 1 ≡ b → good_value o v ≡ leb (v.start + v.size) (pick b (length o.received) (length o.set))
      by true e = good-received (eqb-true v.source 1 e)
      by false e = good-set (let z = eqb-false v.source 1 e in omega arith)

-- ---- every row in turn

module _ (test : ℕ → Bool) (n k : ℕ) (h : k < n) where
  from-here : first_from test k (n - k) ≡ pick (test k) (some k) (first_from test (k + 1) (n - (k + 1)))
  unfolding first_from
  from-here =
      let e : n - k ≡ suc (n - (k + 1)) = omega arith in
      rw (e, add-one k)

  pub first-here : test k ≡ true → first_from test k (n - k) ≡ some k
  first-here e = rw (from-here, e)

  pub first-further : test k ≡ false → first_from test (k + 1) (n - (k + 1)) ≡ first_from test k (n - k)
  first-further e = rw (from-here, e)

pub first-over : (test : ℕ → Bool) (n k : ℕ) → n ≤ k → first_from test k (n - k) ≡ none
unfolding first_from
first-over test n k h = let e : n - k ≡ 0 = omega arith in rw e

-- ---- the octets of a value

module _ (o : Octets) (v : Value) where
  pub octets-absent : v.source ≡ 0 → octets_at o v ≡ []
  unfolding octets_at source_of
  octets-absent e = ap (λ (n : ℕ). take v.size (drop v.start (source_of o n))) e ∙ ap (take v.size) (drop-nil v.start) ∙ take-nil v.size

  pub octets-received : v.source ≡ 1 → octets_at o v ≡ take v.size (drop v.start o.received)
  unfolding octets_at source_of
  octets-received e = ap (λ (n : ℕ). take v.size (drop v.start (source_of o n))) e

  pub octets-set : 2 ≤ v.source → octets_at o v ≡ take v.size (drop v.start o.set)
  unfolding octets_at source_of
  octets-set h = ap (λ (s : List ℕ). take v.size (drop v.start s)) (by v.source h)
    where
      by : (n : ℕ) → 2 ≤ n → source_of o n ≡ o.set
      by zero h = absurd (omega arith)
      by (suc zero) h = absurd (omega arith)
      by (suc (suc n)) h = refl

-- a part of the octets that the source of a present value names
module _ (received set from part : Bor (List ℕ)) (v : Value) (there : 1 ≤ v.source) (named : (v.source ≡ 1 → from ≡ received) × ((v.source ≡ 1 → ⊥) → from ≡ set))
    (octets : part.now ≡ take v.size (drop v.start from.now)) (stands : v.start ≤ length from.now → StandsAt v.start from part) where
  pub octets-named : (part.now ≡ octets_at (sources_of received.now set.now) v) × PlacedAs received set v part
  octets-named = by (eqb v.source 1) refl
    where
      by : (b : Bool) → eqb v.source 1 ≡ b → (part.now ≡ octets_at (sources_of received.now set.now) v) × PlacedAs received set v part
      by true e =
          let h = eqb-true v.source 1 e in
          let f = named.0 h in
          ((rw f at octets) ∙ sym (octets-received (sources_of received.now set.now) v h), ((λ i. rw f at stands), (λ i. absurd (omega arith))))
      by false e =
          let h = eqb-false v.source 1 e in
          let f = named.1 h in
          let l : 2 ≤ v.source = omega arith in
          ((rw f at octets) ∙ sym (octets-set (sources_of received.now set.now) v l), ((λ i. absurd (h i)), (λ i. rw f at stands)))

-- ---- a row of a form

module _ (f : Form) (o : Octets) (v : Value) (k : ℕ) where
  pub shown-absent : v.source ≡ 0 → shown_row f o v k ≡ answer 0 []
  unfolding shown_row present
  shown-absent e = rw e

  pub shown-unfit : 1 ≤ v.source → fits f v.source (octets_at o v) ≡ false → shown_row f o v k ≡ answer 10 (k ∷ [])
  unfolding shown_row present
  shown-unfit h e = rw (le-leb 1 v.source h, e)

  pub shown-fit : 1 ≤ v.source → fits f v.source (octets_at o v) ≡ true → shown_row f o v k ≡ answer 0 (shown_by f o v)
  unfolding shown_row present
  shown-fit h e = rw (le-leb 1 v.source h, e)

-- ---- after the checks

by_tests :
    (b c : Bool) (k : ℕ) (s : List ℕ)
    → unless (refusal (refuse (b && not c) 10 (k ∷ []) ∷ [])) (λ a. a) (answer 0 (pick b s []))
    ≡ pick b (pick c (answer 0 s) (answer 10 (k ∷ []))) (answer 0 [])
unfolding refusal
by_tests true true k s = refl
by_tests true false k s = refl
by_tests false c k s = refl

module _ (table rows received : List ℕ) (set : Used) (k : ℕ) where
  -- the checks that showing shares, with no set octet more
  abbrev checks : List (Option Answer)
  checks = place_checks (rows_of table) (long_with received set 0) (sources_of received (content set)) rows k

  pub show-refused : {a : Answer} → refusal checks ≡ some a → showing table rows received set k ≡ a
  unfolding showing
  show-refused e = rw (← long-none received set, refusal-append checks) (rw e)

  pub show-good : refusal checks ≡ none
      → showing table rows received set k ≡ shown_row (form (row_at (rows_of table) k)) (sources_of received (content set)) (value_at rows k) k
  unfolding showing unfit_at shown_row
  show-good e =
      rw (← long-none received set, refusal-append checks)
      (rw e
      (by_tests
      (present (value_at rows k))
      (fits (form (row_at (rows_of table) k)) (value_at rows k).source (octets_at (sources_of received (content set)) (value_at rows k)))
      k
      (shown_by (form (row_at (rows_of table) k)) (sources_of received (content set)) (value_at rows k))))
