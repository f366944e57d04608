-- Edits that fit and have room are done, and what they leave can be written; so can what reading left.
-- A message can be written where each check of writing but that of the output passes: an edit keeps them, by induction on the edits.
use Prim.Native.Nat.{ℕ, ◌*◌}
use native.Mathlib.Omega.{arith}
use mathlib.Core.Path.{◌≡◌, refl, ap}
use mathlib.Core.List.{List, [], ◌∷◌}
use mathlib.Core.Bool.{Bool, true, false, ◌||◌}
use mathlib.Core.Option.{Option, none, some}
use lib.ListN.{length}
use lib.Dec.{ltb}
use borrow.Author.Tests.{le-ltb, ltb-false}
use Rattle.definitions.specs.Basic.{is_none, refuse, refuse_at, refusal, unless, content, too_long, most_log, over, answer}
use Rattle.definitions.specs.Rows.{first_bad}
use Rattle.definitions.specs.Logs.{kept_list, order_list}
use Rattle.definitions.specs.Values.{place_width, bad_rows, apart, values_too_long}
use Rattle.definitions.specs.Reading.{reading}
use Rattle.definitions.specs.Writing.{unfit, octets_for, octets_in as octets_of, writing_checks, Wrote, writing}
use Rattle.definitions.proofs.Checks.{neither}
use Rattle.promises.specs.RoundTrip.{written_back, gives}
use Rattle.promises.specs.Edits.{Work, Edit, sets, clears, wrote, needs, Ready, Fitting, AllFitting, octets_set, Room, EditsDone, work_of, ReadReady}
use Rattle.promises.proofs.RoundTrip.{round_trip}
use Rattle.promises.proofs.OneRow.{behind-length}
use Rattle.promises.proofs.Editing.{places, octets_in, entries, Sound, Settable, with_set, with_cleared}
use Rattle.promises.proofs.AfterEdit.{set-sound, set-fits, cleared-sound, cleared-fits}
use Rattle.promises.proofs.Edits.{Runs, message, run_none, run-set, run-clear}

record Writable (w : Work) : Type 0 where
  sound : Sound w
  kept-short : too_long most_log w.kept ≡ false
  kept-log : is_none (kept_list (content w.kept)) ≡ false
  fit : unfit (places w) (octets_in w) w.rows ≡ none

-- ---- a writing that is done passed each check

record Passed (o : Option ℕ) (a b c d e : Bool) (f : Option ℕ) : Type 0 where
  one : o ≡ none
  two : a ≡ false
  three : b ≡ false
  four : c ≡ false
  five : d ≡ false
  six : e ≡ false
  seven : f ≡ none

passed : (output : List ℕ) (r : Wrote) (n : ℕ) (o : Option ℕ) (a b c d e : Bool) (f : Option ℕ) (g : Bool)
    → (unless (refusal (refuse_at 4 o ∷ refuse a 3 [] ∷ refuse b 2 (1 ∷ []) ∷ refuse c 11 (1 ∷ []) ∷ refuse d 11 (2 ∷ []) ∷ refuse e 11 (3 ∷ []) ∷ refuse_at 10 f ∷ refuse g 12 (n ∷ []) ∷ [])) (λ x. record { said = x; output = output }) r).said.number ≡ 0
    → Passed o a b c d e f
unfolding refusal
passed output r n (some j) a b c d e f g h = absurd (omega arith)
passed output r n none true b c d e f g h = absurd (omega arith)
passed output r n none false true c d e f g h = absurd (omega arith)
passed output r n none false false true d e f g h = absurd (omega arith)
passed output r n none false false false true e f g h = absurd (omega arith)
passed output r n none false false false false true f g h = absurd (omega arith)
passed output r n none false false false false false (some j) g h = absurd (omega arith)
passed output r n none false false false false false none g h = record { one = refl; two = refl; three = refl; four = refl; five = refl; six = refl; seven = refl }

module _ (w : Work) where
  writable : (output : List ℕ) → (wrote w output).said.number ≡ 0 → Writable w
  unfolding wrote writing writing_checks octets_of
  writable output h =
      let n : ℕ = length (octets_for (message w)) in
      let p =
      passed output (record { said = answer 0 (n ∷ []); output = over (octets_for (message w)) output }) n (first_bad (places w))
      (values_too_long w.received w.set || (too_long most_log w.order || too_long most_log w.kept)) (ltb (length w.rows) (place_width * length (places w)))
      (is_none (order_list (content w.order))) (is_none (kept_list (content w.kept))) (bad_rows place_width (octets_in w) w.rows (length (places w)) || apart (places w) (entries w) w.rows)
      (unfit (places w) (octets_in w) w.rows) (ltb (length output) n) h in
      let a = neither (values_too_long w.received w.set) (too_long most_log w.order || too_long most_log w.kept) p.two in
      let b = neither (too_long most_log w.order) (too_long most_log w.kept) a.1 in
      let c = neither (bad_rows place_width (octets_in w) w.rows (length (places w))) (apart (places w) (entries w) w.rows) p.six in
      record {
        sound = record { passes = p.one; log-short = b.0; short = a.0; room = ltb-false (length w.rows) (place_width * length (places w)) p.three; log = p.four; good = c.0; agrees = c.1 };
        kept-short = b.1;
        kept-log = p.five;
        fit = p.seven;
      }

  ready : Writable w → Ready w
  unfolding wrote needs writing writing_checks refusal octets_of
  ready p output h =
      let s : Sound w = p.sound in
      rw (
        s.passes,
        s.short,
        s.log-short,
        p.kept-short,
        le-ltb (length w.rows) (place_width * length (places w)) s.room,
        s.log,
        p.kept-log,
        s.good,
        s.agrees,
        p.fit,
        le-ltb (length output) (needs w) h,
      )

  -- a message that was written once
  pub ready-when : (output : List ℕ) → (wrote w output).said.number ≡ 0 → Ready w
  ready-when output h = ready (writable output h)

-- ---- the edits

edits-run : (w : Work) (es : List Edit) → Writable w → AllFitting (places w) es → Room w (octets_set es) → (w' : Work) × Runs w es w' × Writable w'
unfolding AllFitting Fitting octets_set
edits-run w [] p f r = (w, run_none w, p)
edits-run w (sets k new ∷ es) p f r =
    let q : Settable w k new = record { inside = f.0.0; fit = f.0.1; limit = omega (arith, r.limit); lent = omega (arith, r.lent) } in
    let w' : Work = with_set w k new in
    let p' : Writable w' = record { sound = set-sound w k p.sound new q; kept-short = p.kept-short; kept-log = p.kept-log; fit = set-fits w k p.sound new q p.fit } in
    let r' : Room w' (octets_set es) = record { limit = omega (arith, r.limit); lent = omega (arith, r.lent, behind-length w.set.used new w.set.buffer q.lent) } in
    let h = edits-run w' es p' f.1 r' in
    (h.0, run-set {w' = h.0} w k p.sound new q h.1, h.2)
edits-run w (clears k ∷ es) p f r =
    let w' : Work = with_cleared w k in
    let p' : Writable w' = record { sound = cleared-sound w k p.sound f.0; kept-short = p.kept-short; kept-log = p.kept-log; fit = cleared-fits w k p.sound f.0 p.fit } in
    let h = edits-run w' es p' f.1 (record { limit = r.limit; lent = r.lent }) in
    (h.0, run-clear {w' = h.0} w k p.sound f.0 h.1, h.2)

pub edits-done : EditsDone
unfolding needs
edits-done w es e f r =
    let p = writable w (octets_for (message w)) (e (octets_for (message w)) (omega arith)) in
    let h = edits-run w es p f r in
    (h.1.done, rw h.1.leaves (ready h.0 h.2))

-- ---- what reading left

pub read-ready : ReadReady
unfolding work_of wrote written_back gives
read-ready table start option part l set small q =
    let w : Work = work_of table part (reading table start option part l) set in
    ready-when w part (ap (λ (x : Wrote). x.said.number) (round_trip table start option part l set part small q (omega arith)))
