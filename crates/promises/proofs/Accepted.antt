-- An accepted part, written back; the octets in front of an offender; the option. An accepted element is complete and in its turn, so
-- neither what stands behind it nor the option has a say in it. Each by induction on the elements.
use Prim.Native.Nat.{ℕ, zero, suc, ◌+◌, ◌-◌, ◌≤◌, ◌<◌}
use native.Mathlib.Omega.{arith}
use mathlib.Core.Path.{◌≡◌, refl, sym, ap, ◌∙◌}
use mathlib.Core.List.{List, [], ◌∷◌}
use mathlib.Core.Option.{Option, none, some}
use mathlib.Core.Bool.{Bool, true, false, ◌&&◌, false≢true}
use lib.ListN.{length, take, drop, length-take, length-drop}
use lib.Seq.{length-take-le}
use lib.Dec.{leb, ltb}
use borrow.Author.Tests.{le-leb, lt-leb, leb-true, leb-false}
use Rattle.definitions.specs.Basic.{pick, bit, answer, refusal, refuse, refuse_at, unless, over, most_octets}
use Rattle.definitions.specs.Octets.{run, number, number_at}
use Rattle.definitions.specs.Rows.{Row, Form, half, fixed, tlv, tlv-e, rows_of, row_at, form, iei_of, place_of, first_bad}
use Rattle.definitions.specs.Length.{length_by, stated, within, whole, unknown_length, missing, required}
use Rattle.definitions.specs.Elements.{Verdict, unknown, Element, is_accepted, Met, nothing_met, meet, taken, judged, octets_of, known, stranger, next, cut, stranger_step, place_step, step, Parted, elements, before, step_then, parted_f, parted, elements_of}
use Rattle.definitions.specs.Logs.{kept_of, plain_at, plain_from, order_of}
use Rattle.definitions.specs.Reading.{Lent, cut_of, read_elements, reading}
use Rattle.definitions.specs.Checking.{offender, checking_checks, checking}
use Rattle.definitions.proofs.RowLaws.{both}
use Rattle.definitions.proofs.Steps.{Frames, whole-frames, front-octets, Stands, strange, placed, Reads, end, more, reads, parts}
use Rattle.definitions.proofs.FrameLaws.{field, drop-take}
use Rattle.definitions.proofs.PlainLaws.{plain-said, kept-none}
use Rattle.definitions.proofs.Readings.{read_done}
use Rattle.definitions.proofs.Checkings.{check-parted, passed, tail_of, stopped_at, tail-strange, tail-bad, tail-good, test, cut-any, InTurn, turn-first, turn-next, turn-verdict}
use Rattle.promises.specs.RoundTrip.{written_back}
use Rattle.promises.specs.Checked.{AcceptedWritten, FrontAccepted, checked_with, OptionAlike}
use Rattle.promises.proofs.RoundTrip.{round_trip}
use Rattle.promises.proofs.Condition3.{take-front}

-- ---- without an offender the table says all

no-offender : (t : List Row) (least : ℕ) (es : List Element) → offender t least es ≡ none → plain_from t least es ≡ true
unfolding offender plain_from
no-offender t least [] h = refl
no-offender t least (e ∷ es) h = go e.place h (λ k. no-offender t (suc k) es)
  where
    by : (k : ℕ) (a b : Bool) → pick (a && b) (offender t (suc k) es) (some e.at) ≡ none → (offender t (suc k) es ≡ none → plain_from t (suc k) es ≡ true)
        → (a && plain_from t (suc k) es) ≡ true
    by k true true h rec = rec h
    by k true false h rec = let z : ◌≡◌ {A = ℕ} 0 1 = cc in absurd (omega arith)
    by k false b h rec = let z : ◌≡◌ {A = ℕ} 0 1 = cc in absurd (omega arith)

    go : (o : Option ℕ)
        → ◌≡◌ {A = Option ℕ} (elim o [ none ↦ some e.at | some k ↦ pick (plain_at t least k e && leb (length e.octets) (row_at t k).greatest) (offender t (suc k) es) (some e.at) ]) none
        → ((k : ℕ) → offender t (suc k) es ≡ none → plain_from t (suc k) es ≡ true) → elim o [ none ↦ false | some k ↦ plain_at t least k e && plain_from t (suc k) es ] ≡ true
    go none h rec = let z : ◌≡◌ {A = ℕ} 0 1 = cc in absurd (omega arith)
    go (some k) h rec = by k (plain_at t least k e) (leb (length e.octets) (row_at t k).greatest) h (rec k)

-- ---- written back

accepted-any : (option again behind ok : Bool) → is_accepted (judged false again behind ok) ≡ true → judged option again behind ok ≡ judged false again behind ok
unfolding judged is_accepted
accepted-any option true behind ok h = refl
accepted-any option false true ok h = absurd (false≢true h)
accepted-any option false false ok h = refl

module _ (t : List Row) (start : ℕ) (option : Bool) where
  -- a part of which the table says all has the same elements with either option
  any-option : {m : Met} {at : ℕ} {s : List ℕ} {es : List Element} (least : ℕ) → Reads t start false m at s es → plain_from t least es ≡ true → Reads t start option m at s es
  unfolding plain_from known stranger
  any-option least end h = end
  any-option least (more (strange p r) rs) h = absurd (false≢true h)
  any-option least (more (placed {m = m} {at = at} {x = x} {xs = xs} k p) rs) h =
      let a = both (plain_at t least k (known t false m at (x ∷ xs) k)) _ h in
      let f = plain-said t least k (known t false m at (x ∷ xs) k) a.0 in
      let e : known t option m at (x ∷ xs) k ≡ known t false m at (x ∷ xs) k =
      ap (λ (v : Verdict). record { at = at; octets = octets_of (whole (form (row_at t k)) (x ∷ xs)) (x ∷ xs); place = some k; verdict = v })
      (accepted-any option (bit k m.places) (ltb k m.highest) (taken (row_at t k) (whole (form (row_at t k)) (x ∷ xs)) (x ∷ xs)) f.taken) in
      let d : Stands t start option m at (x ∷ xs) (known t option m at (x ∷ xs) k) (meet k m) = placed k p in
      more (rw e at d) (any-option (suc k) rs a.1)

pub accepted-written : AcceptedWritten
unfolding read_elements over order_of written_back
accepted-written table start option part l set order kept output small q rows room =
    let t : List Row = rows_of table in
    let d = passed table start part none q in
    let plain : plain_from t 0 d.found ≡ true = no-offender t 0 d.found d.offends in
    let p : parted t start option part ≡ elements d.found = parts t start option (any-option t start option 0 (reads t start false d.decodes) plain) in
    let k : kept_of d.found ≡ [] = kept-none t 0 d.found plain in
    let o : order_of t d.found ≡ [] = rw plain in
    let read : (l' : Lent) → l'.rows ≡ l.rows → reading table start option part l' ≡ read_elements t l' d.found =
    λ l' e. read_done table start option part l' d.passes d.short (rw e rows) d.found p (rw k (omega arith)) (rw o (omega arith)) in
    let l' : Lent = record { rows = l.rows; kept = kept; order = order } in
    let n : (reading table start option part l').said.number ≡ 0 = rw (read l' refl) in
    let w = round_trip table start option part l' set output small n room in
    record {
      done = rw (read l refl, k, o);
      kept-log = rw (read l refl, k);
      order-log = rw (read l refl, o);
      written = rw (read l refl) (rw (read l' refl, k, o) at w);
    }

-- ---- in front of an offender

field-front : (w j : ℕ) (s : List ℕ) (n : ℕ) → length_by w s ≡ some n → n ≤ j → length_by w (take j s) ≡ some n
unfolding length_by number_at run
field-front w j s n e h =
    let f = field w s n e in
    let l : leb (1 + w) (length (take j s)) ≡ true = le-leb (1 + w) (length (take j s)) (omega (arith, length-take j s, f.0, f.1)) in
    let c : take w (drop 1 (take j s)) ≡ take w (drop 1 s) = ap (take w) (drop-take 1 j s) ∙ take-front w (j - 1) (drop 1 s) (λ g. absurd (omega (arith, f.1))) in
    rw (l, c) (ap some (sym f.1))

stated-front : (f : Form) (j : ℕ) (s : List ℕ) (n : ℕ) → stated f s ≡ some n → n ≤ j → stated f (take j s) ≡ some n
unfolding stated
stated-front half j s n e h = e
stated-front (fixed m) j s n e h = e
stated-front tlv j s n e h = field-front 1 j s n e h
stated-front tlv-e j s n e h = field-front 2 j s n e h

-- a complete element is as long where the part ends behind it
whole-front : (f : Form) (j : ℕ) (s : List ℕ) (n : ℕ) → whole f s ≡ some n → n ≤ j → whole f (take j s) ≡ some n
unfolding whole within
whole-front f j s n e h =
    let g : Frames f s (some n) = rw e at (whole-frames f s) in
    rw (stated-front f j s n g.0 h, le-leb n (length (take j s)) (omega (arith, length-take j s, g.1)))

judged-ok : (again behind ok : Bool) → is_accepted (judged false again behind ok) ≡ true → ok ≡ true
unfolding judged is_accepted
judged-ok true behind ok h = absurd (false≢true h)
judged-ok false true ok h = absurd (false≢true h)
judged-ok false false true h = refl
judged-ok false false false h = absurd (false≢true h)

module _ (t : List Row) (start : ℕ) where
  -- an accepted element, with fewer octets behind it
  known-front : (m : Met) (at : ℕ) (s : List ℕ) (k j : ℕ) → is_accepted (known t false m at s k).verdict ≡ true → length (known t false m at s k).octets ≤ j
      → known t false m at (take j s) k ≡ known t false m at s k
  unfolding known octets_of taken
  known-front m at s k j a h = go (whole (form r) s) refl (judged-ok (bit k m.places) (ltb k m.highest) _ a) h
    where
      r : Row
      r = row_at t k

      made : List ℕ → Bool → Element
      made o ok = record { at = at; octets = o; place = some k; verdict = judged false (bit k m.places) (ltb k m.highest) ok }

      go : (o : Option ℕ) → whole (form r) s ≡ o → taken r o s ≡ true → length (octets_of o s) ≤ j
          → made (octets_of (whole (form r) (take j s)) (take j s)) (taken r (whole (form r) (take j s)) (take j s)) ≡ made (octets_of o s) (taken r o s)
      go none e ok h = absurd (false≢true ok)
      go (some c) e ok h =
          let g : Frames (form r) s (some c) = rw e at (whole-frames (form r) s) in
          let n : c ≤ j = omega (arith, length-take-le c s g.1) in
          let f : take c (take j s) ≡ take c s = take-front c j s (λ l. absurd (omega arith)) in
          rw (whole-front (form r) j s c e n, f)

  -- what the part in front of position n is, from the position at on
  record Fronted (m : Met) (at : ℕ) (s : List ℕ) (least n : ℕ) : Type 0 where
    above : at ≤ n
    inside : n < at + length s
    found : List Element
    read : Reads t start false m at (take (n - at) s) found
    plain : offender t least found ≡ none

  stop : (m : Met) (at x : ℕ) (xs : List ℕ) (least : ℕ) → Fronted m at (x ∷ xs) least at
  unfolding offender
  stop m at x xs least =
      let z : at - at ≡ 0 = omega arith in
      let r : Reads t start false m at (take (at - at) (x ∷ xs)) [] = rw z end in
      record { above = omega arith; inside = omega arith; found = []; read = r; plain = refl }

  fronts : {m : Met} {at : ℕ} {s : List ℕ} {es : List Element} (least n : ℕ) → Reads t start false m at s es → offender t least es ≡ some n → Fronted m at s least n
  unfolding offender known stranger
  fronts least n end h = let z : ◌≡◌ {A = ℕ} 0 1 = cc in absurd (omega arith)
  fronts least n (more (strange {m = m} {at = at} {x = x} {xs = xs} p r) rs) h = let e : at ≡ n = cc in rw (← e) (stop m at x xs least)
  fronts least n (more {es = es} (placed {m = m} {at = at} {x = x} {xs = xs} k p) rs) h =
      go (plain_at t least k e && leb (length e.octets) (row_at t k).greatest) refl h (fronts (suc k) n rs)
    where
      e : Element
      e = known t false m at (x ∷ xs) k

      c : ℕ
      c = length e.octets

      cut-to : (j : ℕ) → n - at ≡ j → (plain_at t least k e && leb c (row_at t k).greatest) ≡ true → Fronted (meet k m) (at + c) (drop c (x ∷ xs)) (suc k) n
          → (es' : List Element) × Reads t start false m at (take j (x ∷ xs)) es' × (offender t least es' ≡ none)
      cut-to zero q g f = absurd (omega (arith, f.above, (front-octets (form (row_at t k)) x xs).some-octet))
      cut-to (suc i) q g f =
          let a = both (plain_at t least k e) (leb c (row_at t k).greatest) g in
          let same : known t false m at (x ∷ take i xs) k ≡ e = known-front m at (x ∷ xs) k (suc i) (plain-said t least k e a.0).taken (omega (arith, f.above)) in
          let z : suc i - c ≡ n - (at + c) = omega arith in
          let d : drop c (take (suc i) (x ∷ xs)) ≡ take (n - (at + c)) (drop c (x ∷ xs)) = drop-take c (suc i) (x ∷ xs) ∙ ap (λ (y : ℕ). take y (drop c (x ∷ xs))) z in
          let st : Stands t start false m at (x ∷ take i xs) (known t false m at (x ∷ take i xs) k) (meet k m) = placed k p in
          let rest : Reads t start false (meet k m) (at + c) (drop c (x ∷ take i xs)) f.found = rw d f.read in
          (e ∷ f.found, more (rw same at st) rest, rw g f.plain)

      go : (b : Bool) → (plain_at t least k e && leb c (row_at t k).greatest) ≡ b → pick b (offender t (suc k) es) (some at) ≡ some n
          → (offender t (suc k) es ≡ some n → Fronted (meet k m) (at + c) (drop c (x ∷ xs)) (suc k) n) → Fronted m at (x ∷ xs) least n
      go false g h rec = let e : at ≡ n = cc in rw (← e) (stop m at x xs least)
      go true g h rec =
          let f = rec h in
          let r = cut-to (n - at) refl g f in
          record { above = omega (arith, f.above); inside = omega (arith, f.inside, length-drop c (x ∷ xs)); found = r.0; read = r.1; plain = r.2 }

pub front-accepted : FrontAccepted
front-accepted table start part n q =
    let t : List Row = rows_of table in
    let d = passed table start part (some n) q in
    let f = fronts t start 0 n (reads t start false d.decodes) d.offends in
    let z : n - 0 ≡ n = omega arith in
    let r : Reads t start false nothing_met 0 (take n part) f.found = rw z at f.read in
    (omega (arith, f.inside), check-parted table start (take n part) d.passes (omega (arith, length-take n part, d.short)) (parts t start false r) ∙ rw f.plain)

-- ---- the option

module _ (t : List Row) (start : ℕ) where
  below-bad : (least k at : ℕ) (o : List ℕ) (v : Verdict) → k < least → test t least at o v k ≡ false
  unfolding plain_at
  below-bad least k at o v h = rw (lt-leb least k h) (by (is_accepted v))
    where
      by : (b : Bool) → ((b && false) && leb (length o) (row_at t k).greatest) ≡ false
      by true = refl
      by false = refl

  alike : (f : ℕ) (m : Met) (at : ℕ) (s : List ℕ) (least : ℕ) → InTurn m least → tail_of t least (parted_f t start true f m at s) ≡ tail_of t least (parted_f t start false f m at s)
  unfolding parted_f step step_then place_step stranger_step known stranger
  alike zero m at s least i = refl
  alike (suc f) m at [] least i = refl
  alike (suc f) m at (x ∷ xs) least i = go (place_of t (iei_of x)) (alike f)
    where
      s : List ℕ
      s = x ∷ xs

      behind_by : Bool → Met → ℕ → Parted
      behind_by o m n = parted_f t start o f m (at + n) (drop n s)

      Rec : Type 0
      Rec = (m : Met) (at : ℕ) (s : List ℕ) (least : ℕ) → InTurn m least → tail_of t least (parted_f t start true f m at s) ≡ tail_of t least (parted_f t start false f m at s)

      both-stop : (m : Met) (n : ℕ) → stopped_at at (cut_of (behind_by true m n)) ≡ stopped_at at (cut_of (behind_by false m n))
      both-stop m n = ap (stopped_at at) (cut-any t start true false f m m (at + n) (drop n s))

      unlisted : (o : List ℕ) → tail_of t least (before (stranger at o) (behind_by true m (length o))) ≡ tail_of t least (before (stranger at o) (behind_by false m (length o)))
      unlisted o = tail-strange t least at o unknown _ ∙ both-stop m (length o) ∙ sym (tail-strange t least at o unknown _)

      if : (c : Bool) → tail_of t least (step_then (pick c (cut at x (length s) (missing start s)) (next (stranger at s) m)) (behind_by true))
          ≡ tail_of t least (step_then (pick c (cut at x (length s) (missing start s)) (next (stranger at s) m)) (behind_by false))
      if true = refl
      if false = unlisted s

      by : (o : Option ℕ) → tail_of t least (step_then (stranger_step start m at x s o) (behind_by true)) ≡ tail_of t least (step_then (stranger_step start m at x s o) (behind_by false))
      by none = if (required x)
      by (some n) = unlisted (take n s)

      octets : ℕ → List ℕ
      octets k = octets_of (whole (form (row_at t k)) s) s

      turned : (k : ℕ) (v : Verdict) (b : Bool) → test t least at (octets k) v k ≡ b → least ≤ k → Rec
          → tail_of t least (before (record { at = at; octets = octets k; place = some k; verdict = v }) (behind_by true (meet k m) (length (octets k))))
          ≡ tail_of t least (before (record { at = at; octets = octets k; place = some k; verdict = v }) (behind_by false (meet k m) (length (octets k))))
      turned k v false g h rec = tail-bad t least at (octets k) v k _ g ∙ both-stop (meet k m) (length (octets k)) ∙ sym (tail-bad t least at (octets k) v k _ g)
      turned k v true g h rec = tail-good t least at (octets k) v k _ g ∙ rec (meet k m) _ _ (suc k) (turn-next k i h) ∙ sym (tail-good t least at (octets k) v k _ g)

      order : (k : ℕ) (b : Bool) → leb least k ≡ b → Rec
          → tail_of t least (before (known t true m at s k) (behind_by true (meet k m) (length (octets k)))) ≡ tail_of t least (before (known t false m at s k) (behind_by false (meet k m) (length (octets k))))
      order k false g rec =
          let h : k < least = leb-false least k g in
          tail-bad t least at (octets k) _ k _ (below-bad least k at (octets k) _ h) ∙ both-stop (meet k m) (length (octets k)) ∙ sym (tail-bad t least at (octets k) _ k _ (below-bad least k at (octets k) _ h))
      order k true g rec =
          let h : least ≤ k = leb-true least k g in
          rw (turn-verdict t true at s k i h, turn-verdict t false at s k i h) (turned k _ _ refl h rec)

      go : (o : Option ℕ) → Rec → tail_of t least (step_then (place_step t start true m at x s o) (behind_by true)) ≡ tail_of t least (step_then (place_step t start false m at x s o) (behind_by false))
      go none rec = by (unknown_length start s)
      go (some k) rec = order k (leb least k) refl rec

pub option-alike : OptionAlike
unfolding checked_with checking checking_checks tail_of parted refusal
option-alike table start part = by (first_bad (rows_of table)) (ltb most_octets (length part)) (alike (rows_of table) start (length part) nothing_met 0 part 0 turn-first)
  where
    by : (o : Option ℕ) (b : Bool) → tail_of (rows_of table) 0 (parted_f (rows_of table) start true (length part) nothing_met 0 part) ≡ tail_of (rows_of table) 0 (parted_f (rows_of table) start false (length part) nothing_met 0 part)
        → unless (refusal (refuse_at 4 o ∷ refuse b 3 [] ∷ cut_of (parted_f (rows_of table) start true (length part) nothing_met 0 part) ∷ refuse_at 29 (offender (rows_of table) 0 (elements_of (parted_f (rows_of table) start true (length part) nothing_met 0 part))) ∷ [])) (λ a. a) (answer 0 [])
        ≡ unless (refusal (refuse_at 4 o ∷ refuse b 3 [] ∷ cut_of (parted_f (rows_of table) start false (length part) nothing_met 0 part) ∷ refuse_at 29 (offender (rows_of table) 0 (elements_of (parted_f (rows_of table) start false (length part) nothing_met 0 part))) ∷ [])) (λ a. a) (answer 0 [])
    by (some k) b e = refl
    by none true e = refl
    by none false e = e
