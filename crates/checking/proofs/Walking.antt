-- A pass over a part, element by element: up to the first offender every element is in its turn, so what was met is told by the least
-- place that may come; behind it only lengths count. What is left at a position gives the answer of the whole part.
use Prim.Native.Nat.{ℕ, suc, ◌+◌, ◌≤◌, ◌<◌}
use native.Mathlib.Omega.{arith}
use mathlib.Core.Path.{◌≡◌, refl, ap, sym, ◌∙◌}
use mathlib.Core.List.{List, [], ◌∷◌}
use mathlib.Core.Bool.{Bool, true, false, ◌&&◌}
use mathlib.Core.Option.{Option, none, some}
use lib.ListN.{length, get_or, take, drop, length-drop}
use lib.Seq.{drop-drop, get_or-drop, length-take-le}
use lib.Dec.{leb, eqb}
use Rattle.std.specs.Prelude.{Option as Answered, Some, None, Result, Ok, Err, MatchResult, IsErrAnd}
use borrow.Author.Tests.{le-leb, lt-leb, eq-eqb, ne_eqb, eqb-true, eqb-false}
use Rattle.definitions.specs.Basic.{pick, Answer, answer, refusal, unless}
use Rattle.definitions.specs.Rows.{Row, rows_of, row_at, form, first_iei, iei_of, place_of}
use Rattle.definitions.specs.Tables.{table_of, start_of}
use Rattle.definitions.specs.Length.{whole, unknown_form, unknown_length, missing, required}
use Rattle.definitions.specs.Elements.{unknown, Element, is_accepted, iei_at, Met, nothing_met, meet, octets_of, known, stranger, Step, next, cut, stranger_step, place_step, step, Parted, cut_short, before, step_then, parted_f, parted, elements_of}
use Rattle.definitions.specs.Logs.{plain_at}
use Rattle.definitions.specs.Reading.{cut_of}
use Rattle.definitions.specs.Checking.{offender, checking, checking_by}
use Rattle.definitions.proofs.Steps.{Frames, whole-frames, Front, front-octets, front-first, placed, stands-step, parted_from, parted-step}
use Rattle.definitions.proofs.Checkings.{check-tail, tail_of, stopped_at, tail-strange, tail-bad, tail-good, test, cut-before, cut-any, InTurn, turn-first, turn-next, turn-verdict}
use Rattle.length.specs.declared.CutShort.{CutShort}
use Rattle.order.specs.declared.Placed.{Placed}
use Rattle.rows.proofs.Indexed.{no_place, some-place}
use Rattle.elements.specs.Steps.{fit_of, came_strange, place_at, cut_answer}
use Rattle.elements.specs.declared.element.Cut.{Cut}
use Rattle.elements.proofs.Came.{row_same, place-some, place_none}
use Rattle.checking.specs.Checks.{cut_from, stopped_in, len_of, len_by, Ready}

-- a part that is cut is refused as such
cut-tail : (t : List Row) (least at a y i j : ℕ) → tail_of t least (cut_short a y i j) ≡ stopped_at at (cut_of (cut_short a y i j))
unfolding tail_of cut_of refusal
cut-tail t least at a y i j = refl

-- what is known of an unknown element's length
unknown-frames : (start : ℕ) (s : List ℕ) → 1 ≤ length s → Frames (unknown_form start (get_or s 0 0)) s (unknown_length start s)
unfolding unknown_length
unknown-frames start [] h = absurd (omega arith)
unknown-frames start (x ∷ xs) h = whole-frames (unknown_form start x) (x ∷ xs)

-- a length, where an element that is cut short is told with its start, its first octet and the octets to the end
abbrev pub Told : ℕ → ℕ → ℕ → Result ℕ CutShort → Result ℕ Cut → Type 0
Told a y n o m = MatchResult o (λ (i : ℕ). m ≡ Ok i) (λ (e : CutShort). IsErrAnd m (λ (d : Cut). d ≡ record { start = a; first = y; left = n; missing = e.missing }))

-- ---- the element at a position

module _ (t : List Row) (start : ℕ) (part : List ℕ) where
  -- what is left from a position on, with what was met before it
  abbrev pub rest : Met → ℕ → Parted
  rest m at = parted_from t start false m at (drop at part)

  step-known : (m : Met) (at k : ℕ) (s : List ℕ) → 1 ≤ length s → place_of t (iei_of (get_or s 0 0)) ≡ some k → step t start false m at s ≡ next (known t false m at s k) (meet k m)
  step-known m at k [] h p = absurd (omega arith)
  step-known m at k (x ∷ xs) h p = stands-step t start false (placed k p)

  step-strange : (m : Met) (at : ℕ) (s : List ℕ) → 1 ≤ length s → place_of t (iei_of (get_or s 0 0)) ≡ none → step t start false m at s ≡ stranger_step start m at (get_or s 0 0) s (unknown_length start s)
  unfolding step place_step
  step-strange m at [] h p = absurd (omega arith)
  step-strange m at (x ∷ xs) h p = rw p

  front_of : (k : ℕ) (s : List ℕ) → 1 ≤ length s → Front s (octets_of (whole (form (row_at t k)) s) s)
  front_of k [] h = absurd (omega arith)
  front_of k (x ∷ xs) h = front-octets (form (row_at t k)) x xs

  first_of : (k : ℕ) (s : List ℕ) → 1 ≤ length s → get_or (octets_of (whole (form (row_at t k)) s) s) 0 0 ≡ get_or s 0 0
  first_of k [] h = absurd (omega arith)
  first_of k (x ∷ xs) h = front-first (front-octets (form (row_at t k)) x xs)

  module _ (at : ℕ) (inside : at < length part) where
    abbrev left : List ℕ
    left = drop at part

    abbrev x : ℕ
    x = get_or part at 0

    some_left : 1 ≤ length left
    some_left = simp length-drop (omega arith)

    first-left : get_or left 0 0 ≡ x
    first-left = let z : at + 0 ≡ at = omega arith in get_or-drop at part 0 0 ∙ ap (λ (n : ℕ). get_or part n 0) z

    behind : (m : Met) (n : ℕ) → parted_from t start false m (at + n) (drop n left) ≡ rest m (at + n)
    behind m n = ap (λ (l : List ℕ). parted_from t start false m (at + n) l) (drop-drop n at part)

    module _ (k : ℕ) (p : place_of t (iei_of x) ≡ some k) where
      abbrev n : ℕ
      n = (fit_of (row_at t k) left).len

      pub ends : (1 ≤ n) × (at + n ≤ length part)
      unfolding fit_of
      ends = let f = front_of k left some_left in (f.some-octet, omega (arith, f.fits, length-drop at part))

      pub rest-known : (m : Met) → rest m at ≡ before (known t false m at left k) (rest (meet k m) (at + n))
      unfolding step_then known fit_of
      rest-known m =
          let q : place_of t (iei_of (get_or left 0 0)) ≡ some k = rw first-left p in
          parted-step t start false m at left
          ∙ ap (λ (o : Step). step_then o (λ m' i. parted_from t start false m' (at + i) (drop i left))) (step-known m at k left some_left q)
          ∙ ap (before (known t false m at left k)) (behind (meet k m) n)

      -- a cut behind it
      pub known-cut : (m : Met) → cut_of (rest m at) ≡ cut_of (rest m (at + n))
      known-cut m = ap cut_of (rest-known m) ∙ cut-before (known t false m at left k) (rest (meet k m) (at + n)) ∙ cut-any t start false false (length (drop (at + n) part)) (meet k m) m (at + n) (drop (at + n) part)

      -- whether it is in its turn, by its tests
      module _ (m : Met) (least : ℕ) where
        abbrev o : List ℕ
        o = octets_of (whole (form (row_at t k)) left) left

        abbrev e : Element
        e = known t false m at left k

        tests : test t least at o e.verdict k ≡ ((is_accepted e.verdict && (leb least k && eqb (iei_of x) (first_iei t k))) && leb n (row_at t k).greatest)
        unfolding plain_at iei_at fit_of
        tests = rw (first_of k left some_left, first-left)

        pub stops : test t least at o e.verdict k ≡ false → tail_of t least (rest m at) ≡ stopped_at at (cut_of (rest m at))
        unfolding known
        stops h =
            ap (tail_of t least) (rest-known m) ∙ tail-bad t least at o e.verdict k _ h
            ∙ ap (stopped_at at) (sym (ap cut_of (rest-known m) ∙ cut-before e (rest (meet k m) (at + n))))

        pub passes_on : test t least at o e.verdict k ≡ true → tail_of t least (rest m at) ≡ tail_of t (suc k) (rest (meet k m) (at + n))
        unfolding known
        passes_on h = ap (tail_of t least) (rest-known m) ∙ tail-good t least at o e.verdict k _ h

    -- how far it reaches, as `len_by` says; or the cut
    abbrev pub Goes : Result ℕ CutShort → Type 0
    Goes (Ok i) = (1 ≤ i) × (at + i ≤ length part) × (cut_of (rest nothing_met at) ≡ cut_of (rest nothing_met (at + i)))
    Goes (Err e) = cut_of (rest nothing_met at) ≡ some (answer 1 (at ∷ x ∷ length left ∷ e.missing ∷ []))

    -- by what `map_err` says of it
    pub goes-on : (o : Result ℕ CutShort) {n : ℕ} → Goes o → MatchResult o (λ i. ◌≡◌ {A = Result ℕ Cut} (Ok n) (Ok i)) (λ e. ⊥) → Goes (Ok n)
    goes-on (Ok i) {n} g h = let q : n ≡ i = cc in rw q g
    goes-on (Err e) g h = absurd h

    pub goes-cut : (o : Result ℕ CutShort) (m : Result ℕ Cut) {c : Cut} → Goes o → Told at x (length left) o m → m ≡ Err c → some (cut_answer c) ≡ cut_of (rest nothing_met at)
    goes-cut (Ok i) m g t q = cc
    goes-cut (Err e) (Ok v) g t q = absurd t
    goes-cut (Err e) (Err d) {c} g t q = let i : c ≡ record { start = at; first = x; left = length left; missing = e.missing } = cc in rw i (sym g)

    -- without a place
    module _ (p : place_of t (iei_of x) ≡ none) where
      abbrev then : Step → Parted
      then o = step_then o (λ m' i. parted_from t start false m' (at + i) (drop i left))

      rest-strange : (m : Met) → rest m at ≡ then (stranger_step start m at x left (unknown_length start left))
      rest-strange m =
          let q : place_of t (iei_of (get_or left 0 0)) ≡ none = rw first-left p in
          parted-step t start false m at left ∙ ap then (step-strange m at left some_left q ∙ ap (λ (y : ℕ). stranger_step start m at y left (unknown_length start left)) first-left)

      pub strange-stops : (m : Met) (least : ℕ) → tail_of t least (rest m at) ≡ stopped_at at (cut_of (rest m at))
      unfolding stranger_step step_then stranger
      strange-stops m least = rw (rest-strange m) (by (unknown_length start left))
        where
          unlisted : (o : List ℕ) (q : Parted) → tail_of t least (before (stranger at o) q) ≡ stopped_at at (cut_of (before (stranger at o) q))
          unlisted o q = tail-strange t least at o unknown q ∙ ap (stopped_at at) (sym (cut-before (stranger at o) q))

          cut-there : (a y i j : ℕ) → tail_of t least (cut_short a y i j) ≡ stopped_at at (cut_of (cut_short a y i j))
          cut-there a y i j = cut-tail t least at a y i j

          if : (b : Bool) → tail_of t least (then (pick b (cut at x (length left) (missing start left)) (next (stranger at left) m)))
              ≡ stopped_at at (cut_of (then (pick b (cut at x (length left) (missing start left)) (next (stranger at left) m))))
          if true = cut-there at x (length left) (missing start left)
          if false = unlisted left _

          by : (o : Option ℕ) → tail_of t least (then (stranger_step start m at x left o)) ≡ stopped_at at (cut_of (then (stranger_step start m at x left o)))
          by none = if (required x)
          by (some i) = unlisted (take i left) _

      onward : (o : List ℕ) (i : ℕ) → length o ≡ i → cut_of (before (stranger at o) (parted_from t start false nothing_met (at + length o) (drop (length o) left))) ≡ cut_of (rest nothing_met (at + i))
      onward o i e = cut-before (stranger at o) _ ∙ rw e (ap cut_of (behind nothing_met i))

      pub strange-goes : Goes (len_of (came_strange x (missing start left) left (unknown_length start left)))
      unfolding stranger_step step_then stranger cut_of
      strange-goes = by (unknown_length start left) (ap cut_of (rest-strange nothing_met)) (unknown-frames start left some_left)
        where
          if : (b : Bool) → cut_of (rest nothing_met at) ≡ cut_of (then (pick b (cut at x (length left) (missing start left)) (next (stranger at left) nothing_met)))
              → Goes (len_of (pick b (Err (record { missing = missing start left })) (Ok (record { len = length left; placed = Placed.Unknown }))))
          if true q = q
          if false q = (some_left, omega (arith, length-drop at part), q ∙ onward left (length left) refl)

          by : (o : Option ℕ) → cut_of (rest nothing_met at) ≡ cut_of (then (stranger_step start nothing_met at x left o)) → Frames (unknown_form start (get_or left 0 0)) left o
              → Goes (len_of (came_strange x (missing start left) left o))
          by none q f = if (required x) q
          by (some i) q f = (f.2, omega (arith, f.1, length-drop at part), q ∙ onward (take i left) i (length-take-le i left f.1))

-- nothing is cut past the end
pub no_more : (t : List Row) (start : ℕ) (part : List ℕ) (at : ℕ) → length part ≤ at → none ≡ cut_from t start at part
unfolding parted_f cut_of
no_more t start part at h = by (drop at part) (simp length-drop (omega arith))
  where
    by : (s : List ℕ) → length s ≡ 0 → none ≡ cut_of (parted_f t start false (length s) nothing_met at s)
    by [] e = refl
    by (y ∷ s) e = absurd (omega arith)

-- ---- from turn to turn

-- the whole part's answer is that of what is left, with elements in their turn before it
pub record Turn (table : List ℕ) (start : ℕ) (part : List ℕ) (at least : ℕ) : Type 0 where
  pub met : Met
  pub turn : InTurn met least
  pub tells : checking table start part ≡ tail_of (rows_of table) least (rest (rows_of table) start part met at)

pub begun : (table index part : List ℕ) → Ready table index part → (start : ℕ) → Turn table start part 0 0
unfolding parted
begun table index part r start = record { met = nothing_met; turn = turn-first; tells = check-tail table start part r.passes r.short }

stopped-same : (at : ℕ) (c : Option Answer) → stopped_at at c ≡ unless c (λ a. a) (answer 29 (at ∷ []))
stopped-same at none = refl
stopped-same at (some a) = refl

abbrev pub Stops : List ℕ → ℕ → List ℕ → Answered ℕ → Type 0
Stops table start part o = checking table start part ≡ stopped_in (rows_of table) start part o

-- at the end there is no offender
pub ended : {table : List ℕ} {start : ℕ} {part : List ℕ} {at least : ℕ} → Turn table start part at least → length part ≤ at → Stops table start part None
unfolding tail_of parted_f cut_of elements_of offender refusal
ended {table} {start} {part} {at} {least} i h = i.tells ∙ none_left (drop at part) (simp length-drop (omega arith))
  where
    none_left : (s : List ℕ) → length s ≡ 0 → tail_of (rows_of table) least (parted_f (rows_of table) start false (length s) i.met at s) ≡ answer 0 []
    none_left [] e = refl
    none_left (y ∷ s) e = absurd (omega arith)

module _ (table index part : List ℕ) (r : Ready table index part) (at least : ℕ) (inside : at < length part) (iei : ℕ) (iei-is : iei ≡ iei_of (get_or part at 0)) (octet : iei < 256) where
  abbrev t : List Row
  t = rows_of table

  abbrev y : ℕ
  y = get_or part at 0

  by-tail : (start : ℕ) (i : Turn table start part at least) → tail_of t least (rest t start part i.met at) ≡ stopped_at at (cut_of (rest t start part i.met at)) → Stops table start part (Some at)
  by-tail start i q =
      i.tells ∙ q ∙ ap (stopped_at at) (cut-any t start false false (length (drop at part)) i.met nothing_met at (drop at part)) ∙ stopped-same at (cut_from t start at part)

  nowhere : None ≡ place_at (get_or index iei 0) → place_of t (iei_of y) ≡ none
  nowhere e = rw (← iei-is) (by (eqb (get_or index iei 0) 255) refl)
    where
      by : (b : Bool) → eqb (get_or index iei 0) 255 ≡ b → place_of t iei ≡ none
      by true q = no_place table index r.indexed iei octet (eqb-true (get_or index iei 0) 255 q)
      by false q =
          let s = some-place table index r.indexed iei octet (eqb-false (get_or index iei 0) 255 q) in
          absurd (omega (arith, s.1, place_none (get_or index iei 0) e))

  pub stops-unlisted : None ≡ place_at (get_or index iei 0) → (start : ℕ) → Turn table start part at least → Stops table start part (Some at)
  stops-unlisted e start i = by-tail start i (strange-stops t start part at inside (nowhere e) i.met least)

  module _ (k : ℕ) (k-is : Some k ≡ place_at (get_or index iei 0)) where
    entry : (k ≡ get_or index iei 0) × (k < 128)
    entry = place-some (get_or index iei 0) k-is

    place : place_of t (iei_of y) ≡ some k
    place = rw (← iei-is, entry.0) (some-place table index r.indexed iei octet (λ e. omega (arith, e, entry.0, entry.1))).0

    pub small : k < 128
    small = entry.1

    abbrev pub fit : Bool
    fit = (fit_of (row_at t k) (drop at part)).taken

    abbrev pub size : ℕ
    size = (fit_of (row_at t k) (drop at part)).len

    pub reaches : (1 ≤ size) × (at + size ≤ length part)
    reaches = ends t 0 part at inside k place

    by-test : (start : ℕ) (i : Turn table start part at least)
        → ((is_accepted (known t false i.met at (drop at part) k).verdict && (leb least k && eqb (iei_of y) (first_iei t k))) && leb size (row_at t k).greatest) ≡ false → Stops table start part (Some at)
    by-test start i h = by-tail start i (stops t start part at inside k place i.met least (tests t start part at inside k place i.met least ∙ h))

    -- any test that fails
    fails : (a b c d : Bool) → (b ≡ false) → ((a && (b && c)) && d) ≡ false
    fails true b c d e = rw e
    fails false b c d e = refl

    fails-third : (a b c d : Bool) → (c ≡ false) → ((a && (b && c)) && d) ≡ false
    fails-third true true c d e = rw e
    fails-third true false c d e = refl
    fails-third false b c d e = refl

    fails-last : (a d : Bool) → (d ≡ false) → (a && d) ≡ false
    fails-last true d e = e
    fails-last false d e = refl

    pub stops-below : k < least → (start : ℕ) → Turn table start part at least → Stops table start part (Some at)
    stops-below h start i = by-test start i (fails (is_accepted (known t false i.met at (drop at part) k).verdict) (leb least k) (eqb (iei_of y) (first_iei t k)) (leb size (row_at t k).greatest) (lt-leb least k h))

    pub stops-other : (iei ≡ first_iei t k → ⊥) → (start : ℕ) → Turn table start part at least → Stops table start part (Some at)
    stops-other n start i = by-test start i (fails-third (is_accepted (known t false i.met at (drop at part) k).verdict) (leb least k) (eqb (iei_of y) (first_iei t k)) (leb size (row_at t k).greatest) (ap (λ (z : ℕ). eqb z (first_iei t k)) (sym iei-is) ∙ ne_eqb iei (first_iei t k) n))

    pub stops-untaken : least ≤ k → fit ≡ false → (start : ℕ) → Turn table start part at least → Stops table start part (Some at)
    unfolding fit_of is_accepted
    stops-untaken l f start i = by-test start i (rw (turn-verdict t false at (drop at part) k i.turn l, f))

    pub stops-long : (row_at t k).greatest < size → (start : ℕ) → Turn table start part at least → Stops table start part (Some at)
    stops-long h start i = by-test start i (fails-last (is_accepted (known t false i.met at (drop at part) k).verdict && (leb least k && eqb (iei_of y) (first_iei t k))) (leb size (row_at t k).greatest) (lt-leb size (row_at t k).greatest h))

    pub turns : least ≤ k → iei ≡ first_iei t k → fit ≡ true → size ≤ (row_at t k).greatest → (start : ℕ) → Turn table start part at least → Turn table start part (at + size) (k + 1)
    unfolding fit_of is_accepted
    turns l e f g start i =
        let z : k + 1 ≡ suc k = omega arith in
        let q : ((is_accepted (known t false i.met at (drop at part) k).verdict && (leb least k && eqb (iei_of y) (first_iei t k))) && leb size (row_at t k).greatest) ≡ true =
        rw (turn-verdict t false at (drop at part) k i.turn l, f, le-leb least k l, eq-eqb (iei_of y) (first_iei t k) (sym iei-is ∙ e), le-leb size (row_at t k).greatest g) in
        let w : checking table start part ≡ tail_of t (suc k) (rest t start part (meet k i.met) (at + size)) =
        i.tells ∙ passes_on t start part at inside k place i.met least (tests t start part at inside k place i.met least ∙ q) in
        record { met = meet k i.met; turn = rw z (turn-next k i.turn l); tells = rw z w }

  -- ---- for a cut alone

  pub goes : (start : ℕ) (k : Answered ℕ) → k ≡ place_at (get_or index iei 0) → Goes t start part at inside (len_by table k y start (drop at part))
  goes start None e = strange-goes t start part at inside (nowhere e)
  goes start (Some k) e = rw (row_same table r.indexed.whole k (drop at part)) ((reaches k e).0, (reaches k e).1, known-cut t start part at inside k (place k e) nothing_met)

-- ---- by table number

pub by_number : (n : ℕ) {table : List ℕ} (part : List ℕ) → table_of n ≡ some table → checking_by n part ≡ checking table start_of part
unfolding checking_by
by_number n part e = rw (e, checking_by)

pub by-none : (n : ℕ) (part : List ℕ) → table_of n ≡ none → checking_by n part ≡ answer 5 []
unfolding checking_by
by-none n part e = rw (e, checking_by)
