-- Why an element was set aside: what the answer names is what stood at that element's step.
-- What was met there is told by the elements before it; the verdict says which test held, and the ground is found by it.
use Prim.Native.Nat.{ℕ, zero, suc, ◌+◌, ◌-◌, ◌≤◌, ◌<◌}
use native.Mathlib.Omega.{arith}
use mathlib.Core.Path.{◌≡◌, refl, sym, ap, ◌∙◌}
use mathlib.Core.List.{List, [], ◌∷◌, ◌++◌, append_assoc, append-nil}
use mathlib.Core.Option.{Option, none, some, get_or}
use mathlib.Core.Bool.{Bool, true, false, ◌||◌}
use lib.ListN.{length, take, drop, take-append-drop, length-drop}
use lib.Seq.{length-take-le, take-take}
use lib.Dec.{ltb, eqb}
use borrow.Author.Tests.{eqb-true, eq-eqb, le-leb, ltb-true, ltb-false, le-ltb}
use Rattle.definitions.specs.Basic.{pick, is_none, Answer, answer, refusal, refuse, refuse_at, unless, most_octets}
use Rattle.definitions.specs.Octets.{run, number, number_at}
use Rattle.definitions.specs.Rows.{Row, Form, half, fixed, tlv, tlv-e, rows_of, row_at, form, first_bad}
use Rattle.definitions.specs.Length.{header, length_by, stated, within, whole}
use Rattle.definitions.specs.Elements.{Verdict, accepted, unknown, malformed, repeated, out_of_sequence, Element, Met, taken_by, taken, octets_of, is_at, Parted, elements, cut_short, parted, elements_of}
use Rattle.definitions.specs.Reading.{cut_of}
use Rattle.definitions.specs.Why.{first_at, highest_of, fault_in, why_by, Why, why, at_number, why_numbers, why_at, explaining}
use Rattle.definitions.proofs.Steps.{Frames, whole-frames, Reads, end, more, reads}
use Rattle.definitions.proofs.FrameLaws.{drop-take}
use Rattle.definitions.proofs.Whys.{any_at, Tallies, tallies-none, tallies-next, highest-any, Held, taken-so, no_place, not_taken, was-met, was-below, stands-held, why-only, why-placed, number-none}
use Rattle.promises.specs.Why.{NoneAt, Earliest, NoneAbove, FirstFault, Ground, no_more, not_known, faulty, again, late, Told, Grounded, Answered}
use Rattle.promises.specs.Room.{Readable}

-- ---- the first of a place

is-at : (k : ℕ) (o : Option ℕ) → elim o [ none ↦ false | some j ↦ eqb j k ] ≡ true → o ≡ some k
is-at k none h = cc
is-at k (some j) h = ap some (eqb-true j k h)

not_at : (k : ℕ) (o : Option ℕ) → elim o [ none ↦ false | some j ↦ eqb j k ] ≡ false → o ≡ some k → ⊥
not_at k none h e = let z : ◌≡◌ {A = ℕ} 0 1 = cc in omega arith
not_at k (some j) h e =
    let i : j ≡ k = cc in
    let f : true ≡ false = sym (eq-eqb j k i) ∙ h in
    let z : ◌≡◌ {A = ℕ} 0 1 = cc in
    omega arith

earliest : (k : ℕ) (es : List Element) → any_at k es ≡ true → Earliest k (first_at k es) es
unfolding any_at first_at is_at NoneAt
earliest k [] h = let z : ◌≡◌ {A = ℕ} 0 1 = cc in absurd (omega arith)
earliest k (e ∷ es) h = by (is_at k e) refl (earliest k es) h
  where
    by : (b : Bool) → is_at k e ≡ b → (any_at k es ≡ true → Earliest k (first_at k es) es) → (b || any_at k es) ≡ true → Earliest k (pick b e.at (first_at k es)) (e ∷ es)
    by true q rest g = record { front = []; ground = e; rest = es; stands = refl; starts = refl; there = is-at k e.place q; none_before = tt }
    by false q rest g =
        let r = rest g in
        record { front = e ∷ r.front; ground = r.ground; rest = r.rest; stands = ap (λ (l : List Element). e ∷ l) r.stands; starts = r.starts; there = r.there; none_before = (not_at k e.place q, r.none_before) }

none_above : (h : ℕ) (es : List Element) → highest_of es ≤ h → NoneAbove h es
unfolding highest_of NoneAbove
none_above h [] l = tt
none_above h (e ∷ es) l =
    (λ k q. let f : get_or e.place 0 ≡ k = ap (λ (o : Option ℕ). get_or o 0) q in omega arith, none_above h es (omega arith))

-- ---- the first fault

-- what a form states of an element it states of the element's octets alone
front-field : (w n : ℕ) (s : List ℕ) → 1 + w ≤ n → n ≤ length s → length_by w (take n s) ≡ length_by w s
unfolding length_by number_at run
front-field w n s h l =
    let m : length (take n s) ≡ n = length-take-le n s l in
    let d : take w (drop 1 (take n s)) ≡ take w (drop 1 s) = rw (drop-take 1 n s) (take-take w (n - 1) (drop 1 s) (omega arith)) in
    rw (m, le-leb (1 + w) n h, le-leb (1 + w) (length s) (omega arith), d)

front-stated : (f : Form) (n : ℕ) (s : List ℕ) → header f ≤ n → n ≤ length s → stated f (take n s) ≡ stated f s
unfolding stated header
front-stated half n s h l = refl
front-stated (fixed m) n s h l = refl
front-stated tlv n s h l = front-field 1 n s h l
front-stated tlv-e n s h l = front-field 2 n s h l

front-whole : (f : Form) (n : ℕ) (s : List ℕ) → Frames f s (some n) → whole f (take n s) ≡ some (length (take n s))
unfolding whole within
front-whole f n s h =
    let m : length (take n s) ≡ n = length-take-le n s h.1 in
    rw (front-stated f n s h.3 h.1, h.0, m, le-leb n n (omega arith))

first-fault : (r : Row) (s : List ℕ) → taken r (whole (form r) s) s ≡ false → FirstFault r (octets_of (whole (form r) s) s) (fault_in r (octets_of (whole (form r) s) s))
unfolding taken taken_by octets_of FirstFault fault_in is_none
first-fault r s = of (whole (form r) s) refl (whole-frames (form r) s)
  where
    by : (n : ℕ) (o : List ℕ) → whole (form r) o ≡ some (length o) → (b : Bool) → ltb (length o) r.least ≡ b → taken_by r o ≡ false → FirstFault r o (fault_in r o)
    by n o w true q h = rw (w, q) (w, ltb-true (length o) r.least q)
    by n o w false q h =
        let l : r.least ≤ length o = ltb-false (length o) r.least q in
        rw (w, q) (w, l, rw (le-leb r.least (length o) l) at h)

    of : (o : Option ℕ) → whole (form r) s ≡ o → Frames (form r) s o → taken r o s ≡ false → FirstFault r (octets_of o s) (fault_in r (octets_of o s))
    of none e h q = rw e e
    of (some n) e h q = by n (take n s) (front-whole (form r) n s h) (ltb (length (take n s)) r.least) refl q

-- ---- the ground, by what held

module _ (t : List Row) (es : List Element) (m : Met) (h : Tallies es m) (e : Element) where
  ground-of : (v : Verdict) → e.verdict ≡ v → Held t m e v → Ground t es e v (why t es e)
  unfolding why_by
  ground-of accepted q taken-so = rw (why-only t es e accepted q) no_more
  ground-of unknown q no_place = rw (why-only t es e unknown q) not_known
  ground-of malformed q (not_taken k s p o f) = rw (why-placed t es e k malformed p q) (faulty k _ p (rw (← o) at (first-fault (row_at t k) s f)))
  ground-of repeated q (was-met k p f) = rw (why-placed t es e k repeated p q) (again k _ p (earliest k es (sym (h.places k) ∙ f)))
  ground-of out_of_sequence q (was-below k p f) =
      let l : k < highest_of es = rw h.highest at f in
      let above = none_above (highest_of es) es (omega arith) in
      let first = earliest (highest_of es) es (highest-any es (omega arith)) in
      rw (why-placed t es e k out_of_sequence p q) (late k _ p (record { highest = highest_of es; above = l; none_above = above; first = first }))

-- ---- the element number n

-- it stands at some step, with what was met before it
record Standing (t : List Row) (es : List Element) (e : Element) : Type 0 where
  met : Met
  tallies : Tallies es met
  held : Held t met e e.verdict

standing : {t : List Row} {start : ℕ} {option : Bool} {m : Met} {at : ℕ} {s : List ℕ} {es : List Element} (seen : List Element) → Tallies seen m → Reads t start option m at s es
    → (n : ℕ) {e : Element} {rest : List Element} → drop n es ≡ e ∷ rest → Standing t (seen ++ take n es) e
standing seen h end zero q = let z : ◌≡◌ {A = ℕ} 0 1 = cc in absurd (omega arith)
standing seen h end (suc n) q = let z : ◌≡◌ {A = ℕ} 0 1 = cc in absurd (omega arith)
standing {t = t} {m = m} seen h (more {e = d} x r) zero {e = e} q =
    let i : d ≡ e = cc in
    rw (append-nil seen, ← i) (record { met = m; tallies = h; held = stands-held x })
standing seen h (more {e = d} {es = es} x r) (suc n) q = rw (append_assoc seen (d ∷ []) (take n es)) at (standing (seen ++ (d ∷ [])) (tallies-next seen x h) r n q)

number-there {ℓ} : {X : Type ℓ} (n : ℕ) (es : List Element) (x : X) (f : List Element → Element → X) {e : Element} {rest : List Element} → drop n es ≡ e ∷ rest → at_number n es x f ≡ f (take n es) e
unfolding at_number
number-there n es x f q = ap (λ (l : List Element). elim l [ [] ↦ x | ◌∷◌ d ds ↦ f (take n es) d ]) q

number-some : (n : ℕ) (es : List Element) (x : Answer) (f : List Element → Element → List ℕ) → n < length es → (at_number n es x (λ bs e. answer 0 (f bs e))).number ≡ 0
unfolding at_number
number-some n [] x f h = absurd (omega arith)
number-some zero (e ∷ es) x f h = refl
number-some (suc n) (e ∷ es) x f h = number-some n es x (λ bs. f (e ∷ bs)) (omega arith)

-- ---- the answers

module _ (table : List ℕ) (start : ℕ) (option : Bool) (part : List ℕ) (n : ℕ) where
  abbrev t : List Row
  t = rows_of table

  -- by the elements of a part that decodes
  told : (es : List Element) → parted t start option part ≡ elements es → (why_at t es n).number ≡ 0 → Told table start option part n (why_at t es n)
  unfolding why_at
  told es p = by (drop n es) refl
    where
      by : (l : List Element) → drop n es ≡ l → (why_at t es n).number ≡ 0 → Told table start option part n (why_at t es n)
      by [] q z =
          let g : length es ≤ n = omega (arith, length-drop n es, ap length q) in
          let a : at_number n es (answer 27 []) (λ bs e. answer 0 (why_numbers (why t bs e))) ≡ answer 27 [] = number-none n es _ _ g in
          let b : ◌≡◌ {A = ℕ} 27 0 = sym (ap (λ (x : Answer). x.number) a) ∙ z in
          absurd (omega arith)
      by (e ∷ rest) q z =
          let g : n ≤ length es = omega (arith, length-drop n es, ap length q) in
          let s = standing [] tallies-none (reads t start option p) n q in
          record {
            before = take n es;
            element = e;
            behind = rest;
            reads = p ∙ ap elements (sym (take-append-drop n es) ∙ ap (λ (l : List Element). take n es ++ l) q);
            numbered = length-take-le n es g;
            why = why t (take n es) e;
            says = number-there n es (answer 27 []) (λ bs d. answer 0 (why_numbers (why t bs d))) q;
            ground = ground-of t (take n es) s.met s.tallies e e.verdict refl s.held;
          }

  said : Option ℕ → Bool → Parted → Answer
  said o b p = unless (refusal (refuse_at 4 o ∷ refuse b 3 [] ∷ cut_of p ∷ [])) (λ a. a) (why_at t (elements_of p) n)

  asked : (explaining table start option part n).number ≡ 0 → Told table start option part n (explaining table start option part n)
  unfolding explaining refusal cut_of elements_of said
  asked = by (first_bad t) (ltb most_octets (length part)) (parted t start option part) refl
    where
      by : (o : Option ℕ) (b : Bool) (p : Parted) → parted t start option part ≡ p → (said o b p).number ≡ 0 → Told table start option part n (said o b p)
      by (some k) b p q z = absurd (omega arith)
      by none true p q z = absurd (omega arith)
      by none false (cut_short a x l m) q z = absurd (omega arith)
      by none false (elements es) q z = told es q z

  answered-so : (es : List Element) → Readable table part → parted t start option part ≡ elements es → explaining table start option part n ≡ why_at t es n
  unfolding explaining refusal cut_of elements_of
  answered-so es r p = rw (r.passes, le-ltb most_octets (length part) r.short, p)

pub grounded : Grounded
grounded = asked

pub answered : Answered
unfolding why_at
answered table start option part es n r p =
    let a = answered-so table start option part n es r p in
    (λ h. ap (λ (x : Answer). x.number) a ∙ number-some n es (answer 27 []) (λ bs e. why_numbers (why (rows_of table) bs e)) h, λ h. a ∙ number-none n es _ _ h)
