-- The questions to a kept log that is well formed, by what a whole walk tells of it.
-- Each is answered from the list of its elements, as the definition does.
use Prim.Native.Nat.{ℕ, ◌≤◌}
use mathlib.Core.Path.{◌≡◌, refl, sym}
use mathlib.Core.List.{List, [], ◌∷◌}
use mathlib.Core.Option.{none, some}
use mathlib.Core.Bool.{Bool, true, false, ◌||◌}
use borrow.Author.Tests.{ltb-false}
use lib.Dec.{ltb}
use lib.ListN.{length, take}
use Rattle.std.specs.Prelude.{Option as Answered, Some, None, Ok, Err}
use Rattle.std.specs.Option.{ok_or}
use Rattle.definitions.specs.Basic.{answer, content, most_log, Used, too_long}
use Rattle.definitions.specs.Logs.{kept_list, kept_at, or_empty, kept_count, kept_get}
use Rattle.definitions.proofs.Logs.{not-long, asking-done, asking-bad}
use Rattle.definitions.proofs.LogWalks.{kept_log, Tells, told-log, told-bad}
use Rattle.kept.specs.declared.Span.{Span}
use Rattle.kept.specs.Kept.{used_of, found_by, got_as, tell, start_walk}

-- a used count that is not too long, and one that is
pub short-log : (most : ℕ) (u : Used) → too_long most u ≡ false → (u.used ≤ length u.buffer) × (u.used ≤ most)
unfolding too_long
short-log most u e = by (ltb (length u.buffer) u.used) (ltb most u.used) refl refl e
  where
    by : (b d : Bool) → ltb (length u.buffer) u.used ≡ b → ltb most u.used ≡ d → (b || d) ≡ false → (u.used ≤ length u.buffer) × (u.used ≤ most)
    by true d p q f = cc
    by false true p q f = cc
    by false false p q f = (ltb-false (length u.buffer) u.used p, ltb-false most u.used q)

pub long-log : (most : ℕ) (u : Used) → ((u.used ≤ length u.buffer) × (u.used ≤ most) → ⊥) → too_long most u ≡ true
long-log most u n = by (too_long most u) refl
  where
    by : (b : Bool) → too_long most u ≡ b → b ≡ true
    by true e = refl
    by false e = absurd (n (short-log most u e))

module _ (log : List ℕ) (used want : ℕ) (h : used ≤ length log) (g : used ≤ most_log) {n : ℕ} {found : List ℕ}
    (e : some (n ∷ found) ≡ tell start_walk want (kept_list (take used log))) where
  tells : Tells kept_log want (kept_list (take used log)) (n ∷ found)
  tells = told-log kept_log want (kept_list (take used log)) e

  pub count-log : answer 0 (n ∷ []) ≡ kept_count (used_of log used)
  unfolding kept_count content
  count-log = let i = tells.is in let l : n ≡ length (or_empty (kept_list (take used log))) = cc in
      rw l (sym (asking-done (used_of log used) _ 2 _ (not-long most_log (used_of log used) h g) tells.good))

  pub get-log : answer 0 found ≡ kept_get (used_of log used) want
  unfolding kept_get content
  get-log = let i = tells.is in let l : found ≡ kept_at 0 want (or_empty (kept_list (take used log))) = cc in
      rw l (sym (asking-done (used_of log used) _ 2 _ (not-long most_log (used_of log used) h g) tells.good))

-- the same of a log that is malformed
module _ (log : List ℕ) (used want : ℕ) (h : used ≤ length log) (g : used ≤ most_log) (e : none ≡ tell start_walk want (kept_list (take used log))) where
  pub count-bad : answer 11 (2 ∷ []) ≡ kept_count (used_of log used)
  unfolding kept_count content
  count-bad = sym (asking-bad (used_of log used) _ 2 _ (not-long most_log (used_of log used) h g) (told-bad kept_log want _ e))

  pub get-bad : answer 11 (2 ∷ []) ≡ kept_get (used_of log used) want
  unfolding kept_get content
  get-bad = sym (asking-bad (used_of log used) _ 2 _ (not-long most_log (used_of log used) h g) (told-bad kept_log want _ e))

-- an answer by what was found
pub got-found : (o : Answered Span) → got_as (Ok o) ≡ answer 0 (found_by o)
got-found None = refl
got-found (Some s) = refl

-- what a walk answered, by what becomes of it
module _ {W E : Type 0} (bad : E) where
  pub walked : (o : Answered W) {w : W} → Ok w ≡ ok_or o bad → o ≡ Some w
  walked None e = cc
  walked (Some v) e = cc

  pub not-walked : (o : Answered W) {d : E} → Err d ≡ ok_or o bad → (o ≡ None) × (d ≡ bad)
  not-walked None e = (refl, cc)
  not-walked (Some v) e = cc
