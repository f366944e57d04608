-- The elements of a part, without the count that bounds the recursion: `Reads` says which element stands at each position.
-- `reads` and `parts` go there and back by induction, once for every count that is large enough; other proofs go by `Reads`.
use Prim.Native.Nat.{ℕ, zero, suc, ◌+◌, ◌≤◌}
use native.Mathlib.Omega.{arith}
use mathlib.Core.Path.{◌≡◌, refl, sym, ap, ◌∙◌}
use mathlib.Core.List.{List, [], ◌∷◌}
use mathlib.Core.Option.{Option, none, some, map}
use mathlib.Core.Bool.{Bool, true, false}
use lib.ListN.{length, get_or, take, drop, length-drop}
use lib.Seq.{take-length, length-take-le, get_or-take}
use lib.Dec.{leb}
use borrow.Author.Tests.{leb-true}
use Rattle.definitions.specs.Basic.{pick}
use Rattle.definitions.specs.Octets.{run, number, number_at}
use Rattle.definitions.specs.Rows.{Row, Form, half, fixed, tlv, tlv-e, place_of, iei_of, form, row_at}
use Rattle.definitions.specs.Length.{header, length_by, stated, within, whole, unknown_form, unknown_length, missing, required}
use Rattle.definitions.specs.Elements.{Element, Parted, elements, cut_short, before, Met, nothing_met, meet, octets_of, known, stranger, Step, next, cut, ended, stranger_step, place_step, step, step_then, parted_f, parted}

-- ---- the length of an element

-- what is known of a length that a form finds: the form states it, the octets have it, and it holds the header and an octet
abbrev pub Frames : Form → List ℕ → Option ℕ → Type 0
Frames f s none = Unit
Frames f s (some n) = (stated f s ≡ some n) × (n ≤ length s) × (1 ≤ n) × (header f ≤ n)

abbrev Long : Form → Option ℕ → Type 0
Long f none = Unit
Long f (some n) = (1 ≤ n) × (header f ≤ n)

long-by : (w : ℕ) (s : List ℕ) (f : Form) → header f ≡ 1 + w → Long f (length_by w s)
unfolding length_by number_at run
long-by w s f h = go (leb (1 + w) (length s))
  where
    go : (b : Bool) → Long f (map (λ n. 1 + w + n) (map number (pick b (some (take w (drop 1 s))) none)))
    go true = omega arith
    go false = tt

long-stated : (f : Form) (s : List ℕ) → Long f (stated f s)
unfolding stated header
long-stated half s = omega arith
long-stated (fixed n) s = omega arith
long-stated tlv s = long-by 1 s tlv refl
long-stated tlv-e s = long-by 2 s tlv-e refl

pub whole-frames : (f : Form) (s : List ℕ) → Frames f s (whole f s)
unfolding whole within
whole-frames f s = go (stated f s) refl (long-stated f s)
  where
    if : (n : ℕ) (b : Bool) → leb n (length s) ≡ b → stated f s ≡ some n → Long f (some n) → Frames f s (pick b (some n) none)
    if n true h e l = (e, leb-true n (length s) h, l.0, l.1)
    if n false h e l = tt

    go : (o : Option ℕ) → stated f s ≡ o → Long f o → Frames f s (within s o)
    go none e l = tt
    go (some n) e l = if n (leb n (length s)) refl e l

-- the octets of an element are a front of what is left, of an octet or more
pub record Front (s o : List ℕ) : Type 0 where
  pub front : o ≡ take (length o) s
  pub some-octet : 1 ≤ length o
  pub fits : length o ≤ length s

pub front-octets : (f : Form) (x : ℕ) (xs : List ℕ) → Front (x ∷ xs) (octets_of (whole f (x ∷ xs)) (x ∷ xs))
unfolding octets_of
front-octets f x xs = go (whole f (x ∷ xs)) (whole-frames f (x ∷ xs))
  where
    go : (o : Option ℕ) → Frames f (x ∷ xs) o → Front (x ∷ xs) (octets_of o (x ∷ xs))
    go none h = record { front = sym (take-length (x ∷ xs)); some-octet = omega arith; fits = omega arith }
    go (some n) h =
        let l : length (take n (x ∷ xs)) ≡ n = length-take-le n (x ∷ xs) h.1 in
        record { front = rw l; some-octet = rw l h.2; fits = rw l h.1 }

-- so it begins with the octet at the front
pub front-first : {x : ℕ} {xs o : List ℕ} → Front (x ∷ xs) o → get_or o 0 0 ≡ x
front-first {x} {xs} {o} f = ap (λ (l : List ℕ). get_or l 0 0) f.front ∙ get_or-take (length o) (x ∷ xs) 0 0 f.some-octet

-- ---- one element

-- the element e stands at the front of s, and m' is what was met with it
pub data Stands (t : List Row) (start : ℕ) (option : Bool) : Met → ℕ → List ℕ → Element → Met → Type 0 where
  strange : {m : Met} {at x : ℕ} {xs : List ℕ} → place_of t (iei_of x) ≡ none → (whole (unknown_form start x) (x ∷ xs) ≡ none → required x ≡ false)
      → Stands t start option m at (x ∷ xs) (stranger at (octets_of (whole (unknown_form start x) (x ∷ xs)) (x ∷ xs))) m
  placed : {m : Met} {at x : ℕ} {xs : List ℕ} (k : ℕ) → place_of t (iei_of x) ≡ some k
      → Stands t start option m at (x ∷ xs) (known t option m at (x ∷ xs) k) (meet k m)

module _ (t : List Row) (start : ℕ) (option : Bool) where
  abbrev pub Stood : Met → ℕ → List ℕ → Step → Type 0
  Stood m at s ended = s ≡ []
  Stood m at s (cut a x n k) = Unit
  Stood m at s (next e m') = Stands t start option m at s e m'

  pub step-stood : (m : Met) (at : ℕ) (s : List ℕ) → Stood m at s (step t start option m at s)
  unfolding step place_step stranger_step unknown_length octets_of
  step-stood m at [] = refl
  step-stood m at (x ∷ xs) = go (place_of t (iei_of x)) refl
    where
      s : List ℕ
      s = x ∷ xs

      at_length : (o : Option ℕ) → whole (unknown_form start x) s ≡ o → place_of t (iei_of x) ≡ none → (whole (unknown_form start x) s ≡ none → required x ≡ false)
          → Stands t start option m at s (stranger at (octets_of o s)) m
      at_length o e p r = rw (← e) (strange p r)

      if : (b : Bool) → required x ≡ b → place_of t (iei_of x) ≡ none → whole (unknown_form start x) s ≡ none → Stood m at s (pick b (cut at x (length s) (missing start s)) (next (stranger at s) m))
      if true r p e = tt
      if false r p e = at_length none e p (λ i. r)

      by : (o : Option ℕ) → place_of t (iei_of x) ≡ none → whole (unknown_form start x) s ≡ o → Stood m at s (stranger_step start m at x s o)
      by none p e = if (required x) refl p e
      by (some n) p e = at_length (some n) e p (λ i. cc)

      go : (o : Option ℕ) → place_of t (iei_of x) ≡ o → Stood m at s (place_step t start option m at x s o)
      go none p = by (whole (unknown_form start x) s) p refl
      go (some k) p = placed k p

  pub stands-step : {m m' : Met} {at : ℕ} {s : List ℕ} {e : Element} → Stands t start option m at s e m' → step t start option m at s ≡ next e m'
  unfolding step place_step stranger_step unknown_length octets_of
  stands-step (strange {m = m} {at = at} {x = x} {xs = xs} p r) = rw p (go (whole (unknown_form start x) (x ∷ xs)) r)
    where
      s : List ℕ
      s = x ∷ xs

      go : (o : Option ℕ) → (o ≡ none → required x ≡ false) → stranger_step start m at x s o ≡ next (stranger at (octets_of o s)) m
      go none r = rw (r refl)
      go (some n) r = refl
  stands-step (placed k p) = rw p

  pub stands-front : {m m' : Met} {at : ℕ} {s : List ℕ} {e : Element} → Stands t start option m at s e m' → Front s e.octets
  unfolding stranger known
  stands-front (strange {x = x} {xs = xs} p r) = front-octets (unknown_form start x) x xs
  stands-front (placed {x = x} {xs = xs} k p) = front-octets (form (row_at t k)) x xs

-- ---- the whole part

-- the elements that stand one after the other from a position to the end, with what was met before them
pub data Reads (t : List Row) (start : ℕ) (option : Bool) : Met → ℕ → List ℕ → List Element → Type 0 where
  end : {m : Met} {at : ℕ} → Reads t start option m at [] []
  more : {m m' : Met} {at : ℕ} {s : List ℕ} {e : Element} {es : List Element} → Stands t start option m at s e m'
      → Reads t start option m' (at + length e.octets) (drop (length e.octets) s) es → Reads t start option m at s (e ∷ es)

module _ (t : List Row) (start : ℕ) (option : Bool) where
  abbrev AsRead : Met → ℕ → List ℕ → Parted → Type 0
  AsRead m at s (elements es) = Reads t start option m at s es
  AsRead m at s (cut_short a x n k) = Unit

  left : {m m' : Met} {at : ℕ} {s : List ℕ} {e : Element} {f : ℕ} → Stands t start option m at s e m' → length s ≤ suc f → length (drop (length e.octets) s) ≤ f
  left d h = let r = stands-front t start option d in simp length-drop (omega arith)

  reads_f : (f : ℕ) (m : Met) (at : ℕ) (s : List ℕ) → length s ≤ f → AsRead m at s (parted_f t start option f m at s)
  unfolding parted_f step_then before
  reads_f zero m at [] h = end
  reads_f zero m at (x ∷ xs) h = absurd (omega arith)
  reads_f (suc f) m at s h = go (reads_f f) (step t start option m at s) (step-stood t start option m at s)
    where
      nil : (s : List ℕ) → s ≡ [] → Reads t start option m at s []
      nil s e = rw e end

      put : {m' : Met} {e : Element} (p : Parted) → Stands t start option m at s e m' → AsRead m' (at + length e.octets) (drop (length e.octets) s) p → AsRead m at s (before e p)
      put (elements es) d r = more d r
      put (cut_short a x n k) d r = tt

      go : ((m : Met) (at : ℕ) (s : List ℕ) → length s ≤ f → AsRead m at s (parted_f t start option f m at s)) → (o : Step) → Stood t start option m at s o
          → AsRead m at s (step_then o (λ m' n. parted_f t start option f m' (at + n) (drop n s)))
      go rec ended d = nil s d
      go rec (cut a x n k) d = tt
      go rec (next e m') d = put (parted_f t start option f m' (at + length e.octets) (drop (length e.octets) s)) d (rec m' (at + length e.octets) (drop (length e.octets) s) (left d h))

  parts_f : {m : Met} {at : ℕ} {s : List ℕ} {es : List Element} (f : ℕ) → length s ≤ f → Reads t start option m at s es → parted_f t start option f m at s ≡ elements es
  unfolding parted_f step_then before step
  parts_f zero h end = refl
  parts_f (suc f) h end = refl
  parts_f zero h (more d r) = let f = stands-front t start option d in absurd (omega arith)
  parts_f {m = m} (suc f) h (more {m' = m'} d r) = rw (stands-step t start option d, parts_f {m = m'} f (left d h) r)

  pub reads : {s : List ℕ} {es : List Element} → parted t start option s ≡ elements es → Reads t start option nothing_met 0 s es
  unfolding parted
  reads {s} p = rw p at (reads_f (length s) nothing_met 0 s (omega arith))

  pub parts : {s : List ℕ} {es : List Element} → Reads t start option nothing_met 0 s es → parted t start option s ≡ elements es
  unfolding parted
  parts {s} r = parts_f (length s) (omega arith) r

  -- every count that is large enough gives the same
  counted : (f g : ℕ) (m : Met) (at : ℕ) (s : List ℕ) → length s ≤ f → length s ≤ g → parted_f t start option f m at s ≡ parted_f t start option g m at s
  unfolding parted_f step_then step
  counted zero zero m at s h k = refl
  counted zero (suc g) m at [] h k = refl
  counted zero (suc g) m at (x ∷ xs) h k = absurd (omega arith)
  counted (suc f) zero m at [] h k = refl
  counted (suc f) zero m at (x ∷ xs) h k = absurd (omega arith)
  counted (suc f) (suc g) m at s h k = go (counted f g) (step t start option m at s) (step-stood t start option m at s)
    where
      go : ((m : Met) (at : ℕ) (s : List ℕ) → length s ≤ f → length s ≤ g → parted_f t start option f m at s ≡ parted_f t start option g m at s)
          → (o : Step) → Stood t start option m at s o
          → step_then o (λ m' n. parted_f t start option f m' (at + n) (drop n s)) ≡ step_then o (λ m' n. parted_f t start option g m' (at + n) (drop n s))
      go rec ended d = refl
      go rec (cut a x n k) d = refl
      go rec (next e m') d = ap (before e) (rec m' (at + length e.octets) (drop (length e.octets) s) (left d h) (left d k))

  -- what is left of a part, from a position on and with what was met before it
  abbrev pub parted_from : Met → ℕ → List ℕ → Parted
  parted_from m at s = parted_f t start option (length s) m at s

  -- one step of it, for a loop that takes an element at a time
  pub parted-step : (m : Met) (at : ℕ) (s : List ℕ) → parted_from m at s ≡ step_then (step t start option m at s) (λ m' n. parted_from m' (at + n) (drop n s))
  unfolding parted_f step_then step
  parted-step m at [] = refl
  parted-step m at (x ∷ xs) = go (step t start option m at (x ∷ xs)) (step-stood t start option m at (x ∷ xs))
    where
      s : List ℕ
      s = x ∷ xs

      go : (o : Step) → Stood t start option m at s o → step_then o (λ m' n. parted_f t start option (length xs) m' (at + n) (drop n s)) ≡ step_then o (λ m' n. parted_from m' (at + n) (drop n s))
      go ended d = refl
      go (cut a x n k) d = refl
      go (next e m') d = ap (before e) (counted (length xs) (length (drop (length e.octets) s)) m' (at + length e.octets) (drop (length e.octets) s) (left d (omega arith)) (omega arith))
