-- Setting and clearing by their checks: refused by the first that refuses, or what stands behind them.
-- The first refusal of two lists is that of the first, or else of the second.
use Prim.Native.Nat.{ℕ, ◌+◌, ◌*◌, ◌≤◌, ◌<◌}
use mathlib.Core.Path.{◌≡◌, refl, ap, sym, ◌∙◌}
use mathlib.Core.List.{List, [], ◌∷◌, ◌++◌}
use mathlib.Core.Bool.{true, false, ◌||◌, not}
use mathlib.Core.Option.{Option, none, some}
use borrow.Author.Tests.{lt-ltb, le-ltb, ltb-false}
use lib.ListN.{length}
use lib.Dec.{ltb}
use Rattle.definitions.specs.Basic.{is_none, Answer, answer, refuse, refusal, unless, Used, content, too_long, most_log, over_at}
use Rattle.definitions.specs.Rows.{Row, Form, rows_of, row_at, form}
use Rattle.definitions.specs.Logs.{order_list, or_empty, iei_for}
use Rattle.definitions.specs.Values.{place_width, fits, room_checks, bad_place, place_checks, apart, Edited as DefEdited, setting, clearing}
use Rattle.definitions.proofs.Checks.{neither}
use Rattle.values.specs.Rows.{sources_of}
use Rattle.std.specs.Prelude.{Err}
use Rattle.values.specs.Checks.{error_as, long_with}
use Rattle.values.specs.declared.check.PlaceError.{PlaceError}
use Rattle.values.proofs.Checking.{or_else, refusal-append, long-none}
use Rattle.edits.specs.Edits.{edit_error, Edited, edited_as, Edits, unedited, set_by, set_logged}

-- an edit that is equal to a definition's
pub edits-by : {d e : DefEdited} {a : Edited} {rows set : List ℕ} → d ≡ e → Edits e a rows set → Edits d a rows set
edits-by q h = rw q h

-- a refusal
pub refused : {d : DefEdited} {rows set : List ℕ} {x : Answer} {a : Edited} → d ≡ unedited rows set x → edited_as a ≡ x → Edits d a rows set
refused e q =
    record { answers = q ∙ ap (λ (y : DefEdited). y.said) (sym e); rows_are = ap (λ (y : DefEdited). y.rows) (sym e); set_is = ap (λ (y : DefEdited). y.set) (sym e) }

-- a refusal of the checks before an edit is the edit's
pub error_same : (e : PlaceError) → edited_as (Err (edit_error e)) ≡ error_as e
error_same (PlaceError.BadTable k) = refl
error_same PlaceError.TooLong = refl
error_same PlaceError.NoRoom = refl
error_same PlaceError.Malformed = refl

-- a log that is not too long
pub log-within : (log : List ℕ) (used : ℕ) → too_long most_log (record { buffer = log; used = used }) ≡ false → (used ≤ length log) × (used ≤ 131070)
unfolding too_long
log-within log used h =
    let n = neither (ltb (length log) used) (ltb most_log used) h in
    (ltb-false (length log) used n.0, ltb-false most_log used n.1)

-- two lists of checks, one behind the other
unless-append : {X : Type 0} (cs ds : List (Option Answer)) (r : Answer → X) (d : X) → unless (refusal (cs ++ ds)) r d ≡ unless (refusal cs) r (unless (refusal ds) r d)
unless-append cs ds r d = rw (refusal-append cs ds) (by (refusal cs))
  where
    by : (o : Option Answer) → unless (or_else o (refusal ds)) r d ≡ unless o r (unless (refusal ds) r d)
    by none = refl
    by (some a) = refl

-- ---- setting

module _ (table rows received : List ℕ) (set order : Used) (k : ℕ) (new : List ℕ) where
  abbrev t : List Row
  t = rows_of table

  -- the checks before the rows
  abbrev pub room : List (Option Answer)
  room = room_checks t (too_long most_log order || long_with received set (length new)) rows

  pub set-refused : {a : Answer} → refusal room ≡ some a → setting table rows received set order k new ≡ unedited rows set.buffer a
  unfolding setting long_with
  set-refused e = rw (refusal-append room, e)

  pub set-passed : refusal room ≡ none → setting table rows received set order k new ≡ set_logged t rows received set (content order) k new
  unfolding setting long_with set_logged set_by
  set-passed e =
      unless-append room (malformed ∷ apart' ∷ behind) (unedited rows set.buffer) done
      ∙ rw e (unless-append (malformed ∷ apart' ∷ []) behind (unedited rows set.buffer) done)
    where
      malformed : Option Answer
      malformed = refuse (is_none (order_list (content order))) 11 (1 ∷ [])

      apart' : Option Answer
      apart' = refuse (bad_place t (sources_of received (content set)) rows k || apart t (or_empty (order_list (content order))) rows) 11 (3 ∷ [])

      behind : List (Option Answer)
      behind = refuse (not (fits (form (row_at t k)) 2 new)) 10 (k ∷ []) ∷ refuse (ltb (length set.buffer) (set.used + length new)) 12 ((set.used + length new) ∷ []) ∷ []

      done : DefEdited
      done =
          record { said = answer 0 ((set.used + length new) ∷ []); rows = over_at (place_width * k) (2 ∷ set.used ∷ length new ∷ iei_for t (or_empty (order_list (content order))) k ∷ []) rows; set = over_at set.used new set.buffer }

-- by an order log that is used to its end
module _ (t : List Row) (rows received : List ℕ) (set : Used) (order : List ℕ) (k : ℕ) (new : List ℕ) where
  abbrev logged : DefEdited
  logged = set_logged t rows received set order k new

  pub log-malformed : is_none (order_list order) ≡ true → logged ≡ unedited rows set.buffer (answer 11 (1 ∷ []))
  unfolding set_logged refusal
  log-malformed e = rw e

  module _ (e : is_none (order_list order) ≡ false) where
    pub place-bad : bad_place t (sources_of received (content set)) rows k ≡ true → logged ≡ unedited rows set.buffer (answer 11 (3 ∷ []))
    unfolding set_logged refusal
    place-bad b = rw (e, b)

    module _ (b : bad_place t (sources_of received (content set)) rows k ≡ false) where
      pub row_apart : apart t (or_empty (order_list order)) rows ≡ true → logged ≡ unedited rows set.buffer (answer 11 (3 ∷ []))
      unfolding set_logged refusal
      row_apart d = rw (e, b, d)

      pub rows-good : {iei : ℕ} → apart t (or_empty (order_list order)) rows ≡ false → iei ≡ iei_for t (or_empty (order_list order)) k → logged ≡ set_by (form (row_at t k)) rows set k iei new
      unfolding set_logged refusal
      rows-good d i = rw (e, b, d, i)

-- ---- clearing

module _ (table rows received : List ℕ) (set : Used) (k : ℕ) where
  abbrev pub checks : List (Option Answer)
  checks = place_checks (rows_of table) (long_with received set 0) (sources_of received (content set)) rows k

  pub clear-refused : {a : Answer} → refusal checks ≡ some a → clearing table rows received set k ≡ unedited rows set.buffer a
  unfolding clearing
  clear-refused e = rw (← long-none received set, e)

  pub clear-passed : refusal checks ≡ none → clearing table rows received set k ≡ record { said = answer 0 []; rows = over_at (4 * k) (0 ∷ 0 ∷ 0 ∷ 0 ∷ []) rows; set = set.buffer }
  unfolding clearing
  clear-passed e = rw (← long-none received set, e)

-- ---- a value of a form

module _ (f : Form) (rows : List ℕ) (set : Used) (k iei : ℕ) (new : List ℕ) where
  pub set-unfit : fits f 2 new ≡ false → set_by f rows set k iei new ≡ unedited rows set.buffer (answer 10 (k ∷ []))
  unfolding set_by refusal
  set-unfit e = rw e

  module _ (fit : fits f 2 new ≡ true) where
    pub set_full : length set.buffer < set.used + length new → set_by f rows set k iei new ≡ unedited rows set.buffer (answer 12 ((set.used + length new) ∷ []))
    unfolding set_by refusal
    set_full h = rw (fit, lt-ltb (length set.buffer) (set.used + length new) h)

    pub set-done : set.used + length new ≤ length set.buffer
        → set_by f rows set k iei new ≡ record { said = answer 0 ((set.used + length new) ∷ []); rows = over_at (4 * k) (2 ∷ set.used ∷ length new ∷ iei ∷ []) rows; set = over_at set.used new set.buffer }
    unfolding set_by refusal
    set-done h = rw (fit, le-ltb (length set.buffer) (set.used + length new) h)
