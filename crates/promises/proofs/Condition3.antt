-- Condition 3. An element's length and place are settled by the octets in front of its value and by how many are left, and
-- what was met by the places alone: so the changed part has its elements where the first had. The rest is the round trip.
use Prim.Native.Nat.{ℕ, zero, suc, ◌+◌, ◌/◌, ◌≤◌, ◌<◌}
use native.Mathlib.Omega.{arith}
use mathlib.Core.Path.{◌≡◌, refl, sym, ap, ◌∙◌}
use mathlib.Core.List.{List, [], ◌∷◌}
use mathlib.Core.Option.{Option, none, some}
use mathlib.Core.Bool.{Bool, true, false}
use lib.ListN.{length, get_or, take, drop, length-append, take-append-drop, length-take}
use lib.Seq.{length-take-le, get_or-take, drop-drop}
use lib.Dec.{leb, ltb}
use borrow.Author.Tests.{leb-true, leb-false, le-leb, lt-leb, ne_eqb}
use Rattle.definitions.specs.Basic.{pick, bit}
use Rattle.definitions.specs.Rows.{Row, Form, half, fixed, tlv, tlv-e, rows_of, row_at, form, iei_of, place_of, first_bad}
use Rattle.definitions.specs.Length.{header, whole, unknown_form, required}
use Rattle.definitions.specs.Elements.{unknown, malformed, repeated, out_of_sequence, Element, Met, meet, judged, taken, octets_of, known, stranger, elements, parted}
use Rattle.definitions.proofs.Steps.{Frames, whole-frames, front-octets, front-first, Stands, strange, placed, Reads, end, more, reads, parts}
use Rattle.definitions.proofs.RowLaws.{Bears, listed}
use Rattle.definitions.proofs.FrameLaws.{iei-high, iei-low, whole_same}
use Rattle.promises.specs.Room.{Readable, Enough}
use Rattle.promises.specs.Condition3.{framed_by, Revalued, Changed, Aside, Moves, stays, falls, rises, Became, EachBecame, no_more, and-next, Condition3}
use Rattle.promises.proofs.Matched.{matched}

-- ---- the frame of a changed element

-- a form that an element with this first octet may have, in a table that passes
record Suits (f : Form) (x : ℕ) : Type 0 where
  low : x < 128 → 1 ≤ header f
  high : 128 ≤ x → f ≡ half

bears-suits : (f : Form) (x : ℕ) → Bears f (iei_of x) → Suits f x
unfolding header
bears-suits half x b = let i = iei-high x b.0 in record { low = λ l. absurd (omega arith); high = λ l. refl }
bears-suits (fixed n) x b = let i = iei-low x b in record { low = λ l. omega arith; high = λ l. absurd (omega arith) }
bears-suits tlv x b = let i = iei-low x b in record { low = λ l. omega arith; high = λ l. absurd (omega arith) }
bears-suits tlv-e x b = let i = iei-low x b in record { low = λ l. omega arith; high = λ l. absurd (omega arith) }

unknown-suits : (start x : ℕ) → Suits (unknown_form start x) x
unfolding unknown_form header
unknown-suits start x = go (leb 128 x) (leb start x) refl
  where
    go : (b c : Bool) → leb 128 x ≡ b → Suits (pick b half (pick c tlv-e tlv)) x
    go true c e = let h = leb-true 128 x e in record { low = λ l. absurd (omega arith); high = λ l. refl }
    go false true e = let h = leb-false 128 x e in record { low = λ l. omega arith; high = λ l. absurd (omega arith) }
    go false false e = let h = leb-false 128 x e in record { low = λ l. omega arith; high = λ l. absurd (omega arith) }

-- a front that is short only where nothing is left behind it has the header of the whole
pub take-front : (h n : ℕ) (s : List ℕ) → (n < h → length s ≤ n) → take h (take n s) ≡ take h s
take-front zero n s k = refl
take-front (suc h) zero [] k = refl
take-front (suc h) zero (x ∷ s) k = absurd (omega (arith, k (omega arith)))
take-front (suc h) (suc n) [] k = refl
take-front (suc h) (suc n) (x ∷ s) k = ap (λ (l : List ℕ). x ∷ l) (take-front h n s (λ l. omega (arith, k (omega arith))))

-- how many octets an element has
abbrev size : Form → List ℕ → ℕ
size f s = length (octets_of (whole f s) s)

size-short : (f : Form) (s : List ℕ) → size f s < header f → length s ≤ size f s
unfolding octets_of
size-short f s = go (whole f s) (whole-frames f s)
  where
    go : (o : Option ℕ) → Frames f s o → length (octets_of o s) < header f → length s ≤ length (octets_of o s)
    go none g l = omega arith
    go (some n) g l = absurd (omega (arith, g.3, length-take-le n s g.1))

-- what stays of an element at the front of s, in s'
record Same (f : Form) (x x' : ℕ) (s s' : List ℕ) : Type 0 where
  iei : iei_of x' ≡ iei_of x
  frame : whole f s' ≡ whole f s
  low : x < 128 → x' ≡ x
  high : 128 ≤ x → 128 ≤ x'

same : (f : Form) (x x' : ℕ) (xs xs' : List ℕ) → Suits f x → length (x' ∷ xs') ≡ length (x ∷ xs)
    → Revalued f (take (size f (x ∷ xs)) (x ∷ xs)) (take (size f (x ∷ xs)) (x' ∷ xs')) → Same f x x' (x ∷ xs) (x' ∷ xs')
unfolding header iei_of
same f x x' xs xs' u l r = go (leb 128 x) refl
  where
    s : List ℕ
    s = x ∷ xs

    s' : List ℕ
    s' = x' ∷ xs'

    n : ℕ
    n = size f s

    first : (y : ℕ) (ys : List ℕ) → get_or (take n (y ∷ ys)) 0 0 ≡ y
    first y ys = get_or-take n (y ∷ ys) 0 0 (front-octets f x xs).some-octet

    go : (b : Bool) → leb 128 x ≡ b → Same f x x' s s'
    go true e =
        let h = leb-true 128 x e in
        let k = r.upper-kept (rw (first x xs) h) in
        let q : x' / 16 ≡ x / 16 = rw (first x xs, first x' xs') at k.0 in
        let h' : 128 ≤ x' = omega arith in
        record { iei = rw (le-leb 128 x h, le-leb 128 x' h', q); frame = whole_same f s s' l (rw (u.high h)); low = λ c. absurd (omega arith); high = λ c. h' }
    go false e =
        let h = leb-false 128 x e in
        let k : take (header f) s' ≡ take (header f) s = sym (take-front (header f) n s' (λ c. omega (arith, l, size-short f s c))) ∙ r.header-kept (rw (first x xs) h) ∙ take-front (header f) n s (size-short f s) in
        let i : x' ≡ x = sym (get_or-take (header f) s' 0 0 (u.low h)) ∙ ap (λ (w : List ℕ). get_or w 0 0) k ∙ get_or-take (header f) s 0 0 (u.low h) in
        record { iei = rw i; frame = whole_same f s s' l k; low = λ c. i; high = λ c. absurd (omega arith) }

-- ---- one element

moves : (option again behind ok ok' : Bool) → Moves (judged option again behind ok) (judged option again behind ok')
unfolding judged Aside
moves option true behind ok ok' = stays repeated
moves option false behind true true = stays (judged option false behind true)
moves option false behind false false = stays (judged option false behind false)
moves option false false true false = falls malformed tt
moves option false false false true = rises malformed tt
moves true false true true false = falls out_of_sequence tt
moves true false true false true = rises out_of_sequence tt
moves false false true true false = stays out_of_sequence
moves false false true false true = stays out_of_sequence

-- an element has as many octets at the front of a list that is as long
octets-long : (o : Option ℕ) (s s' : List ℕ) → length s' ≡ length s → length (octets_of o s') ≡ length (octets_of o s)
unfolding octets_of
octets-long none s s' l = l
octets-long (some n) s s' l = rw (length-take n s', length-take n s, l)

taken-same : (r : Row) (o : Option ℕ) (s s' : List ℕ) → octets_of o s' ≡ octets_of o s → taken r o s' ≡ taken r o s
unfolding taken octets_of
taken-same r none s s' e = refl
taken-same r (some n) s s' e = rw e

split-length : (n : ℕ) (s : List ℕ) → length s ≡ length (take n s) + length (drop n s)
split-length n s = ap length (sym (take-append-drop n s)) ∙ length-append (take n s) (drop n s)

changed-length : (t : List Row) (start : ℕ) (es : List Element) (a b : List ℕ) → Changed t start es a b → length b ≡ length a
unfolding Changed
changed-length t start [] a b c = rw (c.0, c.1)
changed-length t start (e ∷ es) a b c =
    let n : ℕ = length e.octets in
    omega (arith, c.0.as_long, changed-length t start es (drop n a) (drop n b) c.1, split-length n a, split-length n b)

module _ (t : List Row) (start : ℕ) (option : Bool) (b : List ℕ) (passes : first_bad t ≡ none) where
  record Stood (m : Met) (at : ℕ) (s' : List ℕ) (e : Element) (m' : Met) : Type 0 where
    element' : Element
    stands : Stands t start option m at s' element' m'
    became : Became b e element'

  -- the octets of what an element became
  module _ (f : Form) (x x' : ℕ) (xs xs' : List ℕ) (at : ℕ) (l : length (x' ∷ xs') ≡ length (x ∷ xs)) (d : x' ∷ xs' ≡ drop at b) (g : whole f (x' ∷ xs') ≡ whole f (x ∷ xs)) where
    abbrev o : List ℕ
    o = octets_of (whole f (x ∷ xs)) (x ∷ xs)

    abbrev o' : List ℕ
    o' = octets_of (whole f (x' ∷ xs')) (x' ∷ xs')

    long : length o' ≡ length o
    long = rw g (octets-long (whole f (x ∷ xs)) (x ∷ xs) (x' ∷ xs') l)

    there : o' ≡ take (length o) (drop at b)
    there = (front-octets f x' xs').front ∙ ap (λ (n : ℕ). take n (x' ∷ xs')) long ∙ ap (take (length o)) d

    taken-kept : (r : Row) → o' ≡ o → taken r (whole f (x' ∷ xs')) (x' ∷ xs') ≡ taken r (whole f (x ∷ xs)) (x ∷ xs)
    taken-kept r e = rw g (taken-same r (whole f (x ∷ xs)) (x ∷ xs) (x' ∷ xs') (rw g at e))

  stood-placed : (m : Met) (at x x' : ℕ) (xs xs' : List ℕ) (k : ℕ) → length (x' ∷ xs') ≡ length (x ∷ xs) → x' ∷ xs' ≡ drop at b → place_of t (iei_of x) ≡ some k
      → Same (form (row_at t k)) x x' (x ∷ xs) (x' ∷ xs') → Stood m at (x' ∷ xs') (known t option m at (x ∷ xs) k) (meet k m)
  unfolding known
  stood-placed m at x x' xs xs' k l d p g =
      let f : Form = form (row_at t k) in
      let i : place_of t (iei_of x') ≡ some k = rw g.iei p in
      record {
        element' = known t option m at (x' ∷ xs') k;
        stands = placed k i;
        became = record {
          starts = refl;
          octets = there f x x' xs xs' at l d g.frame;
          as_long = long f x x' xs xs' at l d g.frame;
          place = refl;
          unchanged = λ e. rw (e, taken-kept f x x' xs xs' at l d g.frame (row_at t k) e);
          verdict = moves option (bit k m.places) (ltb k m.highest) (taken (row_at t k) (whole f (x ∷ xs)) (x ∷ xs)) (taken (row_at t k) (whole f (x' ∷ xs')) (x' ∷ xs'));
        };
      }

  -- the unknown rule goes by the first octet
  rule-same : (x x' : ℕ) (s s' : List ℕ) → Same (unknown_form start x) x x' s s' → (unknown_form start x' ≡ unknown_form start x) × (required x ≡ false → required x' ≡ false)
  unfolding unknown_form required
  rule-same x x' s s' g = go (leb 128 x) refl
    where
      go : (c : Bool) → leb 128 x ≡ c → (unknown_form start x' ≡ unknown_form start x) × (required x ≡ false → required x' ≡ false)
      go true e =
          let h = leb-true 128 x e in
          let h' = g.high h in
          (rw (le-leb 128 x h, le-leb 128 x' h'), λ c. rw (lt-leb x' 15 (omega arith), ne_eqb x' 126 (omega arith), ne_eqb x' 127 (omega arith)))
      go false e = let i = g.low (leb-false 128 x e) in (rw i, λ c. rw i c)

  stood-strange : (m : Met) (at x x' : ℕ) (xs xs' : List ℕ) → length (x' ∷ xs') ≡ length (x ∷ xs) → x' ∷ xs' ≡ drop at b → place_of t (iei_of x) ≡ none
      → (whole (unknown_form start x) (x ∷ xs) ≡ none → required x ≡ false) → Same (unknown_form start x) x x' (x ∷ xs) (x' ∷ xs')
      → Stood m at (x' ∷ xs') (stranger at (octets_of (whole (unknown_form start x) (x ∷ xs)) (x ∷ xs))) m
  unfolding stranger
  stood-strange m at x x' xs xs' l d p q g =
      let f : Form = unknown_form start x in
      let u = rule-same x x' (x ∷ xs) (x' ∷ xs') g in
      let i : place_of t (iei_of x') ≡ none = rw g.iei p in
      let r : whole (unknown_form start x') (x' ∷ xs') ≡ none → required x' ≡ false = λ e. u.1 (q (sym g.frame ∙ (rw u.0 at e))) in
      let z : Stands t start option m at (x' ∷ xs') (stranger at (octets_of (whole (unknown_form start x') (x' ∷ xs')) (x' ∷ xs'))) m = strange i r in
      record {
        element' = stranger at (octets_of (whole f (x' ∷ xs')) (x' ∷ xs'));
        stands = rw u.0 at z;
        became = record {
          starts = refl;
          octets = there f x x' xs xs' at l d g.frame;
          as_long = long f x x' xs xs' at l d g.frame;
          place = refl;
          unchanged = λ e. rw e;
          verdict = stays unknown;
        };
      }

  stood : {m m' : Met} {at : ℕ} {s : List ℕ} {e : Element} → Stands t start option m at s e m' → (s' : List ℕ) → length s' ≡ length s → s' ≡ drop at b
      → Revalued (framed_by t start e) (take (length e.octets) s) (take (length e.octets) s') → Stood m at s' e m'
  unfolding framed_by stranger known
  stood (strange p q) [] l d r = absurd (omega arith)
  stood (strange {m = m} {at = at} {x = x} {xs = xs} p q) (x' ∷ xs') l d r =
      let i : get_or (octets_of (whole (unknown_form start x) (x ∷ xs)) (x ∷ xs)) 0 0 ≡ x = front-first (front-octets (unknown_form start x) x xs) in
      stood-strange m at x x' xs xs' l d p q (same (unknown_form start x) x x' xs xs' (unknown-suits start x) l (rw i at r))
  stood (placed k p) [] l d r = absurd (omega arith)
  stood (placed {m = m} {at = at} {x = x} {xs = xs} k p) (x' ∷ xs') l d r =
      stood-placed m at x x' xs xs' k l d p (same (form (row_at t k)) x x' xs xs' (bears-suits (form (row_at t k)) x (listed t (iei_of x) k passes p).formed) l r)

  -- ---- the whole part

  record Reread (m : Met) (at : ℕ) (s' : List ℕ) (es : List Element) : Type 0 where
    elements' : List Element
    read : Reads t start option m at s' elements'
    each : EachBecame b es elements'

  reread : {m : Met} {at : ℕ} {s : List ℕ} {es : List Element} → Reads t start option m at s es → (s' : List ℕ) → Changed t start es s s' → s' ≡ drop at b → Reread m at s' es
  unfolding Changed
  reread (end {m = m} {at = at}) s' c d = let r : Reads t start option m at s' [] = rw c.1 end in record { elements' = []; read = r; each = no_more }
  reread (more {m = m} {m' = m'} {at = at} {s = s} {e = e} {es = es} k r) s' c d =
      let n : ℕ = length e.octets in
      let l : length s' ≡ length s = changed-length t start (e ∷ es) s s' c in
      let i = stood k s' l d c.0 in
      let j = reread r (drop n s') c.1 (rw d (drop-drop n at b)) in
      let r' : Reads t start option m' (at + length i.element'.octets) (drop (length i.element'.octets) s') j.elements' = rw i.became.as_long j.read in
      record { elements' = i.element' ∷ j.elements'; read = more i.stands r'; each = and-next i.became j.each }

pub condition3 : Condition3
condition3 table start option a b es l set output h p k c o n =
    let t : List Row = rows_of table in
    let e : length b ≡ length a = changed-length t start es a b c in
    let r = reread t start option b h.passes (reads t start option p) b c refl in
    let q : parted t start option b ≡ elements r.elements' = parts t start option r.read in
    let h' : Readable table b = record { passes = h.passes; short = rw e h.short } in
    let k' : Enough table b l = record { rows = k.rows; kept = rw e k.kept; order = rw e k.order } in
    matched table start option b l set output h' k' o (rw e n) q r.each
