-- The checks that calls on a place share: the refusal at the first that refuses, and none where none does.
-- Each law settles the checks before it, in document 01's order.
use Prim.Native.Nat.{ℕ, ◌+◌, ◌*◌, ◌≤◌, ◌<◌}
use native.Mathlib.Omega.{arith}
use native.Mathlib.Nat.{add-zero}
use mathlib.Core.Path.{◌≡◌, refl, sym}
use mathlib.Core.List.{List, [], ◌∷◌, ◌++◌}
use mathlib.Core.Bool.{Bool, true, false, ◌||◌, false≢true}
use mathlib.Core.Option.{Option, none, some}
use borrow.Author.Tests.{lt-ltb, le-ltb, ltb-false, leb-false}
use lib.ListN.{length}
use lib.Dec.{ltb, leb}
use Rattle.definitions.specs.Basic.{Answer, answer, refuse, refuse_at, refusal, Used, too_long, most_octets}
use Rattle.definitions.specs.Rows.{Row, first_bad}
use Rattle.definitions.specs.Values.{Octets, place_width, bad_rows, values_too_long, room_checks, bad_place, place_checks}
use Rattle.definitions.proofs.Checks.{pass, is_false, neither}
use Rattle.values.specs.Checks.{long_with}

-- the first refusal of two lists of checks is that of the first list, or else of the second
abbrev pub or_else : Option Answer → Option Answer → Option Answer
or_else none b = b
or_else (some a) b = some a

pub refusal-append : (cs ds : List (Option Answer)) → refusal (cs ++ ds) ≡ or_else (refusal cs) (refusal ds)
unfolding refusal
refusal-append [] ds = refl
refusal-append (none ∷ cs) ds = refusal-append cs ds
refusal-append (some a ∷ cs) ds = refl

-- ---- the octets

or-again : (a b c : Bool) → ((a || (b || c)) || c) ≡ (a || (b || c))
or-again true b c = refl
or-again false true c = refl
or-again false false true = refl
or-again false false false = refl

module _ (received : List ℕ) (set : Used) where
  -- with no octet more, as with none in question
  pub long-none : long_with received set 0 ≡ values_too_long received set
  unfolding long_with values_too_long too_long
  long-none =
      rw (add-zero set.used)
      (or-again (ltb most_octets (length received)) (ltb (length set.buffer) set.used) (ltb most_octets set.used))

  module _ (more : ℕ) where
    pub long-received : 65535 < length received → long_with received set more ≡ true
    unfolding long_with values_too_long
    long-received h = rw (lt-ltb 65535 (length received) h)

    pub long-buffer : length received ≤ 65535 → length set.buffer < set.used → long_with received set more ≡ true
    unfolding long_with values_too_long too_long
    long-buffer h b = rw (le-ltb 65535 (length received) h, lt-ltb (length set.buffer) set.used b)

    module _ (h : length received ≤ 65535) (b : set.used ≤ length set.buffer) where
      pub long-used : 65535 < set.used → long_with received set more ≡ true
      unfolding long_with values_too_long too_long
      long-used u = rw (le-ltb 65535 (length received) h, le-ltb (length set.buffer) set.used b, lt-ltb 65535 set.used u)

      pub long-more : set.used ≤ 65535 → long_with received set more ≡ ltb most_octets (set.used + more)
      unfolding long_with values_too_long too_long
      long-more u = rw (le-ltb 65535 (length received) h, le-ltb (length set.buffer) set.used b, le-ltb 65535 set.used u)

-- octets that are not too long
pub record Short (received : List ℕ) (set : Used) (more : ℕ) : Type 0 where
  pub received-short : length received ≤ 65535
  pub within : set.used ≤ length set.buffer
  pub short : set.used + more ≤ 65535

-- ---- the checks

module _ (t : List Row) (long : Bool) (rows : List ℕ) where
  abbrev checks : List (Option Answer)
  checks = room_checks t long rows

  pub check-table : {j : ℕ} → first_bad t ≡ some j → refusal checks ≡ some (answer 4 (j ∷ []))
  unfolding room_checks refusal
  check-table e = rw e

  module _ (p : first_bad t ≡ none) where
    pub check-long : long ≡ true → refusal checks ≡ some (answer 3 [])
    unfolding room_checks refusal
    check-long e = rw (p, e)

    module _ (e : long ≡ false) where
      pub check-short : length rows < place_width * length t → refusal checks ≡ some (answer 2 (1 ∷ []))
      unfolding room_checks refusal
      check-short h = rw (p, e, lt-ltb (length rows) (place_width * length t) h)

      pub check-room : place_width * length t ≤ length rows → refusal checks ≡ none
      unfolding room_checks refusal
      check-room h = rw (p, e, le-ltb (length rows) (place_width * length t) h)

  -- what no refusal of them says
  pub record Roomy : Type 0 where
    pub passes : first_bad t ≡ none
    pub not-long : long ≡ false
    pub room : place_width * length t ≤ length rows

  pub roomy : refusal checks ≡ none → Roomy
  unfolding room_checks
  roomy e =
      let a = pass (refuse_at 4 (first_bad t)) (refuse long 3 [] ∷ refuse (ltb (length rows) (place_width * length t)) 2 (1 ∷ []) ∷ []) e in
      let b = pass (refuse long 3 []) (refuse (ltb (length rows) (place_width * length t)) 2 (1 ∷ []) ∷ []) a.1 in
      let c = pass (refuse (ltb (length rows) (place_width * length t)) 2 (1 ∷ [])) [] b.1 in
      record { passes = none-bad (first_bad t) a.0; not-long = is_false long 3 [] b.0; room = ltb-false (length rows) (place_width * length t) (is_false (ltb (length rows) (place_width * length t)) 2 (1 ∷ []) c.0) }
    where
      none-bad : (o : Option ℕ) → refuse_at 4 o ≡ none → o ≡ none
      none-bad none h = refl
      none-bad (some k) h = let z : ◌≡◌ {A = ℕ} 0 1 = cc in absurd (omega arith)

-- a place in the table
pub place_inside : (t : List Row) (o : Octets) (rows : List ℕ) (k : ℕ) → bad_place t o rows k ≡ false → k < length t
unfolding bad_place
place_inside t o rows k h = leb-false (length t) k (neither (bad_rows place_width o rows (length t)) (leb (length t) k) h).1

module _ (t : List Row) (long : Bool) (o : Octets) (rows : List ℕ) (k : ℕ) where
  -- with the rows and the place: a refusal before them stands
  pub check-refused : {a : Answer} → refusal (room_checks t long rows) ≡ some a → refusal (place_checks t long o rows k) ≡ some a
  unfolding place_checks
  check-refused e = rw (refusal-append (room_checks t long rows), e)

  module _ (e : refusal (room_checks t long rows) ≡ none) where
    pub check-bad : bad_place t o rows k ≡ true → refusal (place_checks t long o rows k) ≡ some (answer 11 (3 ∷ []))
    unfolding place_checks refusal
    check-bad b = rw (refusal-append (room_checks t long rows), e) (rw b)

    pub check-good : bad_place t o rows k ≡ false → refusal (place_checks t long o rows k) ≡ none
    unfolding place_checks refusal
    check-good b = rw (refusal-append (room_checks t long rows), e) (rw b)

  -- what no refusal of them says
  pub record Checked : Type 0 where
    pub roomy-is : Roomy t long rows
    pub inside : k < length t

  pub checked : refusal (place_checks t long o rows k) ≡ none → Checked
  unfolding place_checks bad_place
  checked e = by (refusal (room_checks t long rows)) refl (rw (refusal-append (room_checks t long rows)) at e)
    where
      by : (r : Option Answer) → refusal (room_checks t long rows) ≡ r → or_else r (refusal (refuse (bad_place t o rows k) 11 (3 ∷ []) ∷ [])) ≡ none → Checked
      by (some a) p q = let z : ◌≡◌ {A = ℕ} 0 1 = cc in absurd (omega arith)
      by none p q = record { roomy-is = roomy t long rows p; inside = place_inside t o rows k (is_false (bad_place t o rows k) 11 (3 ∷ []) (pass (refuse (bad_place t o rows k) 11 (3 ∷ [])) [] q).0) }

pub short-of : (received : List ℕ) (set : Used) (more : ℕ) → long_with received set more ≡ false → Short received set more
unfolding long_with values_too_long too_long
short-of received set more e =
    by (ltb most_octets (length received)) refl (ltb (length set.buffer) set.used) refl (ltb most_octets set.used) refl (ltb most_octets (set.used + more)) refl e
  where
    by :
        (a : Bool) → ltb most_octets (length received) ≡ a → (b : Bool) → ltb (length set.buffer) set.used ≡ b → (c : Bool) → ltb most_octets set.used ≡ c → (d : Bool) → ltb most_octets (set.used + more) ≡ d
        → ((a || (b || c)) || d) ≡ false → Short received set more
    by true p b q c r d s e = absurd (false≢true (sym e))
    by false p true q c r d s e = absurd (false≢true (sym e))
    by false p false q true r d s e = absurd (false≢true (sym e))
    by false p false q false r true s e = absurd (false≢true (sym e))
    by false p false q false r false s e =
        record { received-short = ltb-false most_octets (length received) p; within = ltb-false (length set.buffer) set.used q; short = ltb-false most_octets (set.used + more) s }
