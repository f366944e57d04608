-- A message whose rows, octets and order log pass each check of setting but those of the value: what setting and clearing do to it.
-- The checks are taken one by one, in document 01's order: a setting that is done passed each, and where each passes it is done.
use Prim.Native.Nat.{ℕ, ◌+◌, ◌*◌, ◌≤◌, ◌<◌}
use native.Mathlib.Omega.{arith}
use mathlib.Core.Path.{◌≡◌, refl}
use mathlib.Core.List.{List, [], ◌∷◌}
use mathlib.Core.Bool.{Bool, true, false, ◌||◌, not}
use mathlib.Core.Option.{Option, none, some}
use lib.ListN.{length}
use lib.Dec.{leb, ltb}
use borrow.Author.Tests.{le-ltb, lt-leb, ltb-false, leb-false, not-false}
use Rattle.definitions.specs.Basic.{is_none, answer, refuse, refuse_at, refusal, unless, Used, content, over_at, too_long, most_octets, most_log}
use Rattle.definitions.specs.Rows.{Row, rows_of, row_at, form, first_bad}
use Rattle.definitions.specs.Logs.{Placed, order_list, or_empty, iei_for}
use Rattle.definitions.specs.Values.{Octets, place_width, bad_rows, apart, fits, values_too_long, room_checks, bad_place, place_checks, Edited, setting, clearing}
use Rattle.definitions.proofs.Checks.{neither}
use Rattle.promises.specs.Edits.{Work, sets, clears, outcome, used_by, after}

abbrev pub places : Work → List Row
places w = rows_of w.table

abbrev pub octets_in : Work → Octets
octets_in w = record { received = w.received; set = content w.set }

abbrev pub entries : Work → List Placed
entries w = or_empty (order_list (content w.order))

pub record Sound (w : Work) : Type 0 where
  pub passes : first_bad (places w) ≡ none
  pub log-short : too_long most_log w.order ≡ false
  pub short : values_too_long w.received w.set ≡ false
  pub room : place_width * length (places w) ≤ length w.rows
  pub log : is_none (order_list (content w.order)) ≡ false
  pub good : bad_rows place_width (octets_in w) w.rows (length (places w)) ≡ false
  pub agrees : apart (places w) (entries w) w.rows ≡ false

-- a value that can be set
pub record Settable (w : Work) (k : ℕ) (new : List ℕ) : Type 0 where
  pub inside : k < length (places w)
  pub fit : fits (form (row_at (places w) k)) 2 new ≡ true
  pub limit : w.set.used + length new ≤ most_octets
  pub lent : w.set.used + length new ≤ length w.set.buffer

-- the message with other rows and set octets
abbrev pub with : Work → List ℕ → Used → Work
with w rows set = record { table = w.table; rows = rows; received = w.received; set = set; order = w.order; kept = w.kept }

abbrev pub with_set : Work → ℕ → List ℕ → Work
with_set w k new =
    with w (over_at (4 * k) (2 ∷ w.set.used ∷ length new ∷ iei_for (places w) (entries w) k ∷ []) w.rows)
    (record { buffer = over_at w.set.used new w.set.buffer; used = w.set.used + length new })

abbrev pub with_cleared : Work → ℕ → Work
with_cleared w k = with w (over_at (4 * k) (0 ∷ 0 ∷ 0 ∷ 0 ∷ []) w.rows) w.set

-- ---- what setting and clearing do

record Passed (o : Option ℕ) (a b c d e f : Bool) : Type 0 where
  one : o ≡ none
  two : a ≡ false
  three : b ≡ false
  four : c ≡ false
  five : d ≡ false
  six : e ≡ false
  seven : f ≡ false

passed : (rows set : List ℕ) (r : Edited) (k n : ℕ) (o : Option ℕ) (a b c d e f : Bool)
    → (unless (refusal (refuse_at 4 o ∷ refuse a 3 [] ∷ refuse b 2 (1 ∷ []) ∷ refuse c 11 (1 ∷ []) ∷ refuse d 11 (3 ∷ []) ∷ refuse e 10 (k ∷ []) ∷ refuse f 12 (n ∷ []) ∷ [])) (λ x. record { said = x; rows = rows; set = set }) r).said.number ≡ 0
    → Passed o a b c d e f
unfolding refusal
passed rows set r k n (some j) a b c d e f h = absurd (omega arith)
passed rows set r k n none true b c d e f h = absurd (omega arith)
passed rows set r k n none false true c d e f h = absurd (omega arith)
passed rows set r k n none false false true d e f h = absurd (omega arith)
passed rows set r k n none false false false true e f h = absurd (omega arith)
passed rows set r k n none false false false false true f h = absurd (omega arith)
passed rows set r k n none false false false false false true h = absurd (omega arith)
passed rows set r k n none false false false false false false h = record { one = refl; two = refl; three = refl; four = refl; five = refl; six = refl; seven = refl }

module _ (w : Work) (k : ℕ) where
  abbrev t : List Row
  t = places w

  abbrev o : Octets
  o = octets_in w

  pub set-done : (new : List ℕ) → (outcome w (sets k new)).said.number ≡ 0 → Sound w × Settable w k new
  unfolding outcome setting room_checks bad_place
  set-done new h =
      let n : ℕ = w.set.used + length new in
      let p =
      passed w.rows w.set.buffer (record { said = answer 0 (n ∷ []); rows = (with_set w k new).rows; set = (with_set w k new).set.buffer }) k n (first_bad t) (too_long most_log w.order || (values_too_long w.received w.set || ltb most_octets n))
      (ltb (length w.rows) (place_width * length t)) (is_none (order_list (content w.order)))
      ((bad_rows place_width o w.rows (length t) || leb (length t) k) || apart t (entries w) w.rows) (not (fits (form (row_at t k)) 2 new)) (ltb (length w.set.buffer) n) h in
      let a = neither (too_long most_log w.order) (values_too_long w.received w.set || ltb most_octets n) p.two in
      let b = neither (values_too_long w.received w.set) (ltb most_octets n) a.1 in
      let c = neither (bad_rows place_width o w.rows (length t) || leb (length t) k) (apart t (entries w) w.rows) p.five in
      let d = neither (bad_rows place_width o w.rows (length t)) (leb (length t) k) c.0 in (
        record { passes = p.one; log-short = a.0; short = b.0; room = ltb-false (length w.rows) (place_width * length t) p.three; log = p.four; good = d.0; agrees = c.1 },
        record { inside = leb-false (length t) k d.1; fit = not-false (fits (form (row_at t k)) 2 new) p.six; limit = ltb-false most_octets n b.1; lent = ltb-false (length w.set.buffer) n p.seven },
      )

  module _ (s : Sound w) where
    pub set_does : (new : List ℕ) → Settable w k new
        → outcome w (sets k new) ≡ record { said = answer 0 ((w.set.used + length new) ∷ []); rows = (with_set w k new).rows; set = (with_set w k new).set.buffer }
    unfolding outcome setting room_checks bad_place refusal
    set_does new p =
        let n : ℕ = w.set.used + length new in
        rw (
          s.passes,
          s.log-short,
          s.short,
          le-ltb most_octets n p.limit,
          le-ltb (length w.rows) (place_width * length t) s.room,
          s.log,
          s.good,
          lt-leb (length t) k p.inside,
          s.agrees,
          p.fit,
          le-ltb (length w.set.buffer) n p.lent,
        )

    pub set_after : (new : List ℕ) → Settable w k new → after w (sets k new) ≡ with_set w k new
    unfolding after used_by
    set_after new p = rw (set_does new p)

    pub clear-does : k < length t → outcome w (clears k) ≡ record { said = answer 0 []; rows = (with_cleared w k).rows; set = w.set.buffer }
    unfolding outcome clearing place_checks room_checks bad_place refusal
    clear-does l = rw (s.passes, s.short, le-ltb (length w.rows) (place_width * length t) s.room, s.good, lt-leb (length t) k l)

    pub clear-after : k < length t → after w (clears k) ≡ with_cleared w k
    unfolding after used_by
    clear-after l = rw (clear-does l)
