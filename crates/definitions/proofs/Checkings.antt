-- Checking by its checks: what it is at the first that refuses, and where none does. Each law settles the checks before it, in
-- document 02's order; and back: a part that is accepted, or refused with 29, passed those before.
use Prim.Native.Nat.{ℕ, zero, suc, ◌+◌, ◌≤◌, ◌<◌}
use native.Mathlib.Omega.{arith}
use mathlib.Core.Path.{◌≡◌, refl, ap, sym, ◌∙◌}
use mathlib.Core.List.{List, [], ◌∷◌}
use mathlib.Core.Bool.{Bool, true, false, ◌&&◌}
use mathlib.Core.Option.{Option, none, some}
use borrow.Author.Tests.{lt-ltb, le-ltb, ltb-false, ne_eqb}
use lib.ListN.{length, get_or, take, drop}
use lib.Dec.{leb, ltb}
use Rattle.definitions.specs.Basic.{pick, bit, Answer, answer, refusal, refuse, refuse_at, unless, most_octets}
use Rattle.definitions.specs.Rows.{Row, rows_of, row_at, form, iei_of, place_of, first_bad}
use Rattle.definitions.specs.Length.{whole, unknown_length, missing, required}
use Rattle.definitions.specs.Logs.{plain_at}
use Rattle.definitions.specs.Elements.{Verdict, accepted, malformed, Element, Met, nothing_met, meet, taken, judged, known, stranger, cut, next, stranger_step, place_step, step, Parted, elements, cut_short, before, step_then, parted_f, elements_of, parted}
use Rattle.definitions.specs.Reading.{cut_of}
use Rattle.definitions.specs.Checking.{offender, checking_checks, checking}
use Rattle.definitions.proofs.BitLaws.{bit-including, no-bit}

module _ (table : List ℕ) (start : ℕ) (part : List ℕ) where
  abbrev t : List Row
  t = rows_of table

  abbrev p : Parted
  p = parted t start false part

  pub check-bad : {k : ℕ} → first_bad t ≡ some k → checking table start part ≡ answer 4 (k ∷ [])
  unfolding checking checking_checks refusal
  check-bad e = rw e

  module _ (passes : first_bad t ≡ none) where
    pub check-long : most_octets < length part → checking table start part ≡ answer 3 []
    unfolding checking checking_checks refusal
    check-long h = rw (passes, lt-ltb most_octets (length part) h)

    module _ (short : length part ≤ most_octets) where
      pub check-cut : {a x n k : ℕ} → p ≡ cut_short a x n k → checking table start part ≡ answer 1 (a ∷ x ∷ n ∷ k ∷ [])
      unfolding checking checking_checks refusal cut_of
      check-cut e = rw (passes, le-ltb most_octets (length part) short, e)

      -- of a part that decodes, the first offender or none
      pub check-parted : {es : List Element} → p ≡ elements es → checking table start part ≡ unless (refuse_at 29 (offender t 0 es)) (λ a. a) (answer 0 [])
      unfolding checking checking_checks refusal cut_of elements_of
      check-parted {es} e = rw (passes, le-ltb most_octets (length part) short, e) (last (offender t 0 es))
        where
          last : (o : Option ℕ) → unless (refusal (refuse_at 29 o ∷ [])) (λ a. a) (answer 0 []) ≡ unless (refuse_at 29 o) (λ a. a) (answer 0 [])
          last none = refl
          last (some k) = refl

-- an answer that is none of the refusals of reading: the table passed, the part is within its limit and decodes
pub record Passed (table : List ℕ) (start : ℕ) (part : List ℕ) (o : Option ℕ) : Type 0 where
  pub passes : first_bad (rows_of table) ≡ none
  pub short : length part ≤ most_octets
  pub found : List Element
  pub decodes : parted (rows_of table) start false part ≡ elements found
  pub offends : offender (rows_of table) 0 found ≡ o

-- 0 or 29, by whether there is an offender
abbrev pub said_of : Option ℕ → Answer
said_of none = answer 0 []
said_of (some k) = answer 29 (k ∷ [])

number_of : {a b : Answer} → a ≡ b → a.number ≡ b.number
number_of e = ap (λ (a : Answer). a.number) e

pub passed : (table : List ℕ) (start : ℕ) (part : List ℕ) (o : Option ℕ) → checking table start part ≡ said_of o → Passed table start part o
unfolding checking checking_checks elements_of refusal cut_of
passed table start part o q =
    by (first_bad t) (ltb most_octets (length part)) (parted t start false part) (offender t 0 (elements_of (parted t start false part))) o refl refl refl refl q
  where
    t : List Row
    t = rows_of table

    by : (a : Option ℕ) (b : Bool) (r : Parted) (c o : Option ℕ) → first_bad t ≡ a → ltb most_octets (length part) ≡ b → parted t start false part ≡ r
        → offender t 0 (elements_of r) ≡ c → unless (refusal (refuse_at 4 a ∷ refuse b 3 [] ∷ cut_of r ∷ refuse_at 29 c ∷ [])) (λ a. a) (answer 0 []) ≡ said_of o
        → Passed table start part o
    by (some k) b r c none e f g h q = absurd (omega (arith, number_of q))
    by (some k) b r c (some j) e f g h q = absurd (omega (arith, number_of q))
    by none true r c none e f g h q = absurd (omega (arith, number_of q))
    by none true r c (some j) e f g h q = absurd (omega (arith, number_of q))
    by none false (cut_short x y z w) c none e f g h q = absurd (omega (arith, number_of q))
    by none false (cut_short x y z w) c (some j) e f g h q = absurd (omega (arith, number_of q))
    by none false (elements es) none none e f g h q =
        record { passes = e; short = ltb-false most_octets (length part) f; found = es; decodes = g; offends = h }
    by none false (elements es) none (some j) e f g h q = absurd (omega (arith, number_of q))
    by none false (elements es) (some i) none e f g h q = absurd (omega (arith, number_of q))
    by none false (elements es) (some i) (some j) e f g h q = record { passes = e; short = ltb-false most_octets (length part) f; found = es; decodes = g; offends = h ∙ ap (λ (a : Answer). some (get_or a.values 0 0)) q }

-- ---- what is left of a part, by the element in front

-- the answer by the elements alone
unfoldable pub tail_of : List Row → ℕ → Parted → Answer
tail_of t least p = unless (refusal (cut_of p ∷ refuse_at 29 (offender t least (elements_of p)) ∷ [])) (λ a. a) (answer 0 [])

-- with an offender at a position: 1 where the part is cut behind it
abbrev pub stopped_at : ℕ → Option Answer → Answer
stopped_at at none = answer 29 (at ∷ [])
stopped_at at (some a) = a

pub check-tail : (table : List ℕ) (start : ℕ) (part : List ℕ) → first_bad (rows_of table) ≡ none → length part ≤ most_octets
    → checking table start part ≡ tail_of (rows_of table) 0 (parted (rows_of table) start false part)
unfolding checking checking_checks refusal tail_of
check-tail table start part passes short = rw (passes, le-ltb most_octets (length part) short)

pub cut-before : (e : Element) (p : Parted) → cut_of (before e p) ≡ cut_of p
unfolding before cut_of
cut-before e (elements es) = refl
cut-before e (cut_short a x n k) = refl

module _ (t : List Row) (least : ℕ) (at : ℕ) (o : List ℕ) (v : Verdict) where
  -- without a place
  pub tail-strange : (p : Parted) → tail_of t least (before (record { at = at; octets = o; place = none; verdict = v }) p) ≡ stopped_at at (cut_of p)
  unfolding tail_of before cut_of elements_of offender refusal
  tail-strange (elements es) = refl
  tail-strange (cut_short a x n k) = refl

  module _ (k : ℕ) where
    abbrev placed_here : Element
    placed_here = record { at = at; octets = o; place = some k; verdict = v }

    abbrev pub test : Bool
    test = plain_at t least k placed_here && leb (length o) (row_at t k).greatest

    pub tail-bad : (p : Parted) → test ≡ false → tail_of t least (before placed_here p) ≡ stopped_at at (cut_of p)
    unfolding tail_of before cut_of elements_of offender refusal
    tail-bad (elements es) h = rw h
    tail-bad (cut_short a x n j) h = refl

    pub tail-good : (p : Parted) → test ≡ true → tail_of t least (before placed_here p) ≡ tail_of t (suc k) p
    unfolding tail_of before cut_of elements_of offender refusal
    tail-good (elements es) h = rw h
    tail-good (cut_short a x n j) h = refl

-- where a part is cut goes by the lengths of its elements alone: neither the option nor what was met has a say
pub cut-any : (t : List Row) (start : ℕ) (a b : Bool) (f : ℕ) (m m' : Met) (at : ℕ) (s : List ℕ) → cut_of (parted_f t start a f m at s) ≡ cut_of (parted_f t start b f m' at s)
unfolding parted_f step step_then place_step stranger_step known cut_of
cut-any t start a b zero m m' at s = refl
cut-any t start a b (suc f) m m' at [] = refl
cut-any t start a b (suc f) m m' at (x ∷ xs) = go (place_of t (iei_of x)) (cut-any t start a b f)
  where
    s : List ℕ
    s = x ∷ xs

    behind_by : Bool → Met → ℕ → Parted
    behind_by o m n = parted_f t start o f m (at + n) (drop n s)

    then : (e e' : Element) (p q : Parted) → cut_of p ≡ cut_of q → cut_of (before e p) ≡ cut_of (before e' q)
    then e e' p q h = cut-before e p ∙ h ∙ sym (cut-before e' q)

    Same : Type 0
    Same = (m m' : Met) (at : ℕ) (s : List ℕ) → cut_of (parted_f t start a f m at s) ≡ cut_of (parted_f t start b f m' at s)

    if : (c : Bool) → Same → cut_of (step_then (pick c (cut at x (length s) (missing start s)) (next (stranger at s) m)) (behind_by a))
        ≡ cut_of (step_then (pick c (cut at x (length s) (missing start s)) (next (stranger at s) m')) (behind_by b))
    if true rec = refl
    if false rec = then (stranger at s) (stranger at s) _ _ (rec m m' _ _)

    by : (o : Option ℕ) → Same → cut_of (step_then (stranger_step start m at x s o) (behind_by a)) ≡ cut_of (step_then (stranger_step start m' at x s o) (behind_by b))
    by none rec = if (required x) rec
    by (some n) rec = then (stranger at (take n s)) (stranger at (take n s)) _ _ (rec m m' _ _)

    go : (o : Option ℕ) → Same → cut_of (step_then (place_step t start a m at x s o) (behind_by a)) ≡ cut_of (step_then (place_step t start b m' at x s o) (behind_by b))
    go none rec = by (unknown_length start s) rec
    go (some k) rec = then (known t a m at s k) (known t b m' at s k) _ _ (rec (meet k m) (meet k m') _ _)

-- ---- elements in table order

-- no place from the least on was met
pub record InTurn (m : Met) (least : ℕ) : Type 0 where
  pub unmet : (k : ℕ) → least ≤ k → bit k m.places ≡ false
  pub behind : m.highest ≤ least

pub turn-first : InTurn nothing_met 0
turn-first = record { unmet = λ k h. no-bit k; behind = omega arith }

pub turn-later : {m : Met} {least later : ℕ} → InTurn m least → least ≤ later → InTurn m later
turn-later i h = record { unmet = λ k l. i.unmet k (omega arith); behind = omega (arith, i.behind) }

pub turn-next : {m : Met} {least : ℕ} (k : ℕ) → InTurn m least → least ≤ k → InTurn (meet k m) (suc k)
unfolding meet
turn-next {m} k i h =
    record {
      unmet = λ j l. bit-including j k m.places ∙ rw (ne_eqb j k (omega arith), i.unmet j (omega arith));
      behind = omega (arith, i.behind);
    }

-- an element of a place from the least on has its verdict by its row alone
pub turn-verdict : {m : Met} {least : ℕ} (t : List Row) (option : Bool) (at : ℕ) (s : List ℕ) (k : ℕ) → InTurn m least → least ≤ k
    → (known t option m at s k).verdict ≡ pick (taken (row_at t k) (whole (form (row_at t k)) s) s) accepted malformed
unfolding known judged
turn-verdict {m} rs option at s k i h = rw (i.unmet k h, le-ltb k m.highest (omega (arith, i.behind)))
