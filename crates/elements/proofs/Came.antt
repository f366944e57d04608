-- How an element came, as a step of the definition by the rows that a table and any index say: the index says its place, its row or the unknown
-- rule the rest. Its first octet is the first of what is left; the two numbers of the places met lose nothing.
use Prim.Native.Nat.{ℕ, ◌^◌, ◌≤◌, ◌<◌}
use native.Mathlib.Omega.{arith}
use mathlib.Core.Path.{◌≡◌, refl, ap, sym, ◌∙◌}
use mathlib.Core.List.{List, [], ◌∷◌}
use mathlib.Core.Bool.{Bool, true, false}
use mathlib.Core.Option.{Option, none, some}
use borrow.Author.Tests.{lt-ltb, ltb-true, ltb-false}
use lib.ListN.{length, get_or, drop, length-drop}
use lib.Seq.{length-take-le, get_or-take}
use lib.Dec.{ltb}
use Rattle.std.specs.Prelude.{Option as Answered, Some, None, Result, Ok, Err, MatchResult, IsErrAnd}
use Rattle.definitions.specs.Basic.{pick, bit}
use Rattle.definitions.specs.Rows.{Row, Form, form, rows_of, row_at, iei_of, place_of}
use Rattle.definitions.specs.Length.{whole, unknown_form, unknown_length, missing, required}
use Rattle.definitions.specs.Elements.{taken, taken_by, octets_of, known, meet, iei_at, stranger, stranger_step, Step as DefStep, next, cut, step, place_step}
use Rattle.definitions.proofs.Steps.{Frames, whole-frames, front-octets, front-first}
use Rattle.length.specs.declared.CutShort.{CutShort}
use Rattle.order.specs.declared.Placed.{Placed}
use Rattle.rows.specs.Numbers.{numbers_at, row_said, Whole}
use Rattle.seen.specs.Seen.{set_of, seen_of, including_place}
use Rattle.elements.specs.Steps.{element_of, state_of, step_of, met_of, fit_of, came_known, came_strange, found_at, place_at, cut_of}
use Rattle.elements.specs.declared.element.State.{State}
use Rattle.elements.specs.declared.element.Came.{Came}
use Rattle.elements.specs.declared.element.Cut.{Cut}
use Rattle.seen.proofs.Sets.{seen_of_lem}
use Rattle.elements.proofs.Steps.{step-some, left-first}
use Rattle.by_index.specs.ByIndex.{row_by, rows_by}
use Rattle.by_index.proofs.Rows.{some-place, no_place, row_at_lem}

-- ---- with a place

first-same : (f : Form) (left : List ℕ) → 0 < length left → get_or (octets_of (whole f left) left) 0 0 ≡ get_or left 0 0
first-same f [] h = absurd (omega arith)
first-same f (x ∷ xs) h = front-first (front-octets f x xs)

pub known-found : (t : List Row) (option : Bool) (s : State) (left : List ℕ) (k x n : ℕ) → 0 < length left → k < 128
    → found_at s x (iei_of (get_or left 0 0)) (Some k) n (Ok (came_known (row_at t k) (iei_of (get_or left 0 0)) option (bit k (set_of s.seen)) (ltb k s.highest) left))
    ≡ step_of (next (known t option (met_of s) s.at left k) (meet k (met_of s)))
unfolding fit_of including_place known meet element_of state_of iei_at
known-found t option s left k x n h g = rw (lt-ltb k 128 g, first-same (form (row_at t k)) left h)

-- a row by the numbers at its place
module _ (table : List ℕ) (w : Whole table) (k : ℕ) where
  abbrev stated : Row
  stated = row_said (numbers_at table k)

  abbrev row : Row
  row = row_at (rows_of table) k

  form-same : form stated ≡ form row
  unfolding form
  form-same = rw (w.code k, w.size k)

  taken-same : (o : Option ℕ) (s : List ℕ) → taken stated o s ≡ taken row o s
  unfolding taken taken_by
  taken-same none s = refl
  taken-same (some n) s = rw (form-same, w.code k, w.least k, w.kinds k)

  pub row_same : (s : List ℕ) → fit_of stated s ≡ fit_of row s
  unfolding fit_of
  row_same s = rw (form-same, taken-same (whole (form row) s) s)

-- ---- without one

module _ (start : ℕ) (s : State) (low : s.seen.low < 2 ^ 64) (left : List ℕ) (x : ℕ) where
  same : s.seen ≡ seen_of (set_of s.seen)
  same = seen_of_lem s.seen.high s.seen.low low

  abbrev Strange : Option ℕ → Type 0
  Strange o = found_at s x (iei_of (get_or left 0 0)) None (length left) (came_strange x (missing start left) left o) ≡ step_of (stranger_step start (met_of s) s.at x left o)

  strange-there : (n : ℕ) → 1 ≤ n → n ≤ length left → Strange (some n)
  unfolding stranger_step stranger element_of state_of iei_at
  strange-there n h g = rw (← same, length-take-le n left g, get_or-take n left 0 0 h)

  strange-cut : Strange none
  unfolding stranger_step stranger element_of state_of iei_at
  strange-cut = by (required x)
    where
      by : (b : Bool) → found_at s x (iei_of (get_or left 0 0)) None (length left) (pick b (Err (record { missing = missing start left })) (Ok (record { len = length left; placed = Placed.Unknown })))
          ≡ step_of (pick b (cut s.at x (length left) (missing start left)) (next (stranger s.at left) (met_of s)))
      by true = refl
      by false = rw (← same)

-- the length of an unknown element is within what is left
unknown-fits : (start : ℕ) (left : List ℕ) {n : ℕ} → unknown_length start left ≡ some n → (1 ≤ n) × (n ≤ length left)
unfolding unknown_length
unknown-fits start [] e = let z : ◌≡◌ {A = ℕ} 0 1 = cc in absurd (omega arith)
unknown-fits start (x ∷ xs) {n = n} e =
    let f : Frames (unknown_form start x) (x ∷ xs) (some n) = rw e at (whole-frames (unknown_form start x) (x ∷ xs)) in
    (f.2, f.1)

pub strange-found : (start : ℕ) (s : State) → s.seen.low < 2 ^ 64 → (left : List ℕ) (x : ℕ) → (let o : Option ℕ = unknown_length start left in found_at s x (iei_of (get_or left 0 0)) None (length left) (came_strange x (missing start left) left o) ≡ step_of (stranger_step start (met_of s) s.at x left o))
strange-found start s low left x = by (unknown_length start left) refl
  where
    by : (o : Option ℕ) → unknown_length start left ≡ o → Strange start s low left x o
    by (some n) e = let f = unknown-fits start left e in strange-there start s low left x n f.0 f.1
    by none e = strange-cut start s low left x

-- ---- the row of a place fits an element as its numbers say

taken-by : (table index : List ℕ) (k : ℕ) (o : Option ℕ) (s : List ℕ) → taken (row_said (numbers_at table k)) o s ≡ taken (row_by table index k) o s
unfolding row_by form taken taken_by
taken-by table index k none s = refl
taken-by table index k (some n) s = refl

pub fit_same : (table index : List ℕ) (k : ℕ) (s : List ℕ) → fit_of (row_said (numbers_at table k)) s ≡ fit_of (row_by table index k) s
unfolding fit_of row_by form
fit_same table index k s =
    let n : Option ℕ = whole (form (row_said (numbers_at table k))) s in
    ap (λ (b : Bool). record { len = length (octets_of n s); taken = b }) (taken-by table index k n s)

-- ---- the place that an index's entry is

pub place-some : (e : ℕ) {k : ℕ} → Some k ≡ place_at e → (k ≡ e) × (k < 128)
unfolding place_at
place-some e {k = k} q = by (ltb e 128) refl q
  where
    by : (b : Bool) → ltb e 128 ≡ b → Some k ≡ pick b (Some e) None → (k ≡ e) × (k < 128)
    by true t f = let z : k ≡ e = cc in (z, omega (arith, ltb-true e 128 t))
    by false t f = cc

pub place_none : (e : ℕ) → None ≡ place_at e → 128 ≤ e
unfolding place_at
place_none e q = by (ltb e 128) refl q
  where
    by : (b : Bool) → ltb e 128 ≡ b → None ≡ pick b (Some e) None → 128 ≤ e
    by true t f = cc
    by false t f = ltb-false e 128 t

-- how an unknown element came, where one that is cut short is told with its start, its first octet and the octets to the end
abbrev pub Told : ℕ → ℕ → ℕ → Result Came CutShort → Result Came Cut → Type 0
Told a x n r m = MatchResult r (λ (c : Came). m ≡ Ok c) (λ (e : CutShort). IsErrAnd m (λ (d : Cut). d ≡ cut_of a x n e.missing))

-- ---- at a state's position

module _ (table index : List ℕ) (start : ℕ) (option : Bool) (part : List ℕ) (s : State) (low : s.seen.low < 2 ^ 64) (inside : s.at < length part) where
  abbrev left : List ℕ
  left = drop s.at part

  abbrev here : DefStep
  here = step (rows_by table index) start option (met_of s) s.at left

  -- how an element came, by its first octet, its IEI and its place
  abbrev pub came_at : ℕ → ℕ → Answered ℕ → Result Came CutShort
  came_at x iei (Some k) = Ok (came_known (row_said (numbers_at table k)) iei option (bit k (set_of s.seen)) (ltb k s.highest) left)
  came_at x iei None = came_strange x (missing start left) left (unknown_length start left)

  module _ (x iei : ℕ) (x-is : x ≡ get_or part s.at 0) (iei-is : iei ≡ iei_of x) (octet : iei < 256) where
    first-is : get_or left 0 0 ≡ x
    first-is = left-first s.at part ∙ sym x-is

    step_is : (o : Option ℕ) → place_of (rows_by table index) iei ≡ o → place_step (rows_by table index) start option (met_of s) s.at x left o ≡ here
    step_is o q =
        sym (step-some (rows_by table index) start option (met_of s) s.at left (simp length-drop (omega arith))
        ∙ rw (first-is, ← iei-is, q))

    pub came-by : (k : Answered ℕ) → k ≡ place_at (get_or index iei 0) → found_at s x iei k (length left) (came_at x iei k) ≡ step_of here
    unfolding place_step
    came-by (Some k) w =
        let h = place-some (get_or index iei 0) w in
        let p : place_of (rows_by table index) iei ≡ some k = some-place table index iei octet (omega (arith, h.0, h.1)) ∙ ap some (sym h.0) in
        rw (fit_same table index k left, ← row_at_lem table index k h.1)
        (rw (first-is, ← iei-is) at (known-found (rows_by table index) option s left k x (length left) (simp length-drop (omega arith)) h.1))
        ∙ ap step_of (step_is (some k) p)
    came-by None w =
        let p : place_of (rows_by table index) iei ≡ none = no_place table index iei octet (place_none (get_or index iei 0) w) in
        (rw (first-is, ← iei-is) at (strange-found start s low left x)) ∙ ap step_of (step_is none p)

    -- the same by what is known of a place, and where there is none
    pub by-place : {k : Answered ℕ} {p : ℕ} {c : Came} → k ≡ Some p → Some p ≡ place_at (get_or index iei 0)
        → c ≡ came_known (row_said (numbers_at table p)) iei option (bit p (set_of s.seen)) (ltb p s.highest) left → found_at s x iei k (length left) (Ok c) ≡ step_of here
    by-place {p = p} e q h = rw (e, h) (came-by (Some p) q)

    abbrev Strange-came : Result Came CutShort → Type 0
    Strange-came r = r ≡ came_strange x (missing start left) left (unknown_length start left)

    pub by-rule : {k : Answered ℕ} {r : Result Came CutShort} → k ≡ None → None ≡ place_at (get_or index iei 0) → Strange-came r → found_at s x iei k (length left) r ≡ step_of here
    by-rule e q h = rw (e, h) (came-by None q)

    -- and where one that is cut short is told with where it stands
    pub told-rule : {k : Answered ℕ} (r : Result Came CutShort) (m : Result Came Cut) {c : Came} → Told s.at x (length left) r m → m ≡ Ok c → k ≡ None → None ≡ place_at (get_or index iei 0) → Strange-came r
        → found_at s x iei k (length left) (Ok c) ≡ step_of here
    told-rule {k = k} (Ok v) m {c} t u e q h = let z : c ≡ v = cc in ap (λ (y : Came). found_at s x iei k (length left) (Ok y)) z ∙ by-rule e q h
    told-rule (Err y) (Ok v) t u e q h = absurd t
    told-rule (Err y) (Err d) t u e q h = cc

    pub told-cut : (r : Result Came CutShort) (m : Result Came Cut) {d : Cut} → Told s.at x (length left) r m → m ≡ Err d → None ≡ place_at (get_or index iei 0) → Strange-came r → Err d ≡ step_of here
    told-cut (Ok v) m t u q h = cc
    told-cut (Err y) (Ok v) t u q h = absurd t
    told-cut (Err y) (Err z) {d} t u q h = let i : d ≡ cut_of s.at x (length left) y.missing = cc in rw i (by-rule refl q h)
