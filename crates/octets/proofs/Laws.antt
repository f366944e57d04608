-- What an answer at a cursor says of the definition: octets and numbers were there, or short.
-- By cases on the definition's answer; two constructors are never equal.
use Prim.Native.Nat.{ℕ, ◌+◌, ◌≤◌, ◌<◌}
use mathlib.Core.Bool.{Bool, true, false}
use mathlib.Core.Path.{◌≡◌, refl, sym, ap}
use mathlib.Core.List.{List}
use mathlib.Core.Option.{Option, none, some}
use borrow.Author.Tests.{leb-true, leb-false}
use lib.Dec.{leb}
use lib.ListN.{length}
use Rattle.std.specs.Prelude.{Some, None}
use Rattle.std.proofs.lemmas.Option.{some_pair_parts}
use Rattle.definitions.specs.Octets.{run}
use Rattle.definitions.proofs.Octets.{run-there, run_short}
use Rattle.octets.specs.Answers.{run_of, moved_of, number_of}
use Rattle.octets.specs.declared.Cursor.{Cursor}
use Rattle.octets.specs.declared.Run.{Run}

-- a number read, over its width
pub number-is : (w at : ℕ) (o : Option ℕ) {n : ℕ} {k : Cursor} → Some (n, k) ≡ number_of w at o → o ≡ some n
number-is w at none e = cc
number-is w at (some x) {n = n} {k = k} e = ap some (sym (some_pair_parts n x k (record { at = at + w }) e).0)

pub number-none : (w at : ℕ) (o : Option ℕ) → None ≡ number_of w at o → o ≡ none
number-none w at none e = refl
number-none w at (some x) e = cc

-- a run of n octets that was taken, and one that was not
module _ (n at : ℕ) (s : List ℕ) where
  abbrev pub run_here : Run
  run_here = record { start = at; len = n; next = record { at = at + n } }

  pub run-is : (r : Run) → Some r ≡ run_of at n (run n at s) → (at + n ≤ length s) × (r ≡ run_here)
  run-is r e = by (leb (at + n) (length s)) refl
    where
      by : (b : Bool) → leb (at + n) (length s) ≡ b → (at + n ≤ length s) × (r ≡ run_here)
      by true t = let h = leb-true (at + n) (length s) t in let f : Some r ≡ Some run_here = rw (run-there n at s h) at e in (h, cc)
      by false t = let h = leb-false (at + n) (length s) t in let f : Some r ≡ None = rw (run_short n at s h) at e in cc

  pub run-none : None ≡ run_of at n (run n at s) → length s < at + n
  run-none e = by (leb (at + n) (length s)) refl
    where
      by : (b : Bool) → leb (at + n) (length s) ≡ b → length s < at + n
      by true t = let h = leb-true (at + n) (length s) t in let f : None ≡ Some run_here = rw (run-there n at s h) at e in cc
      by false t = leb-false (at + n) (length s) t

  -- the same of the cursor behind it
  pub moved-is : (k : Cursor) → Some k ≡ moved_of (run_of at n (run n at s)) → (at + n ≤ length s) × (k ≡ record { at = at + n })
  moved-is k e = by (leb (at + n) (length s)) refl
    where
      by : (b : Bool) → leb (at + n) (length s) ≡ b → (at + n ≤ length s) × (k ≡ record { at = at + n })
      by true t = let h = leb-true (at + n) (length s) t in let f : Some k ≡ Some run_here.next = rw (run-there n at s h) at e in (h, cc)
      by false t = let h = leb-false (at + n) (length s) t in let f : Some k ≡ None = rw (run_short n at s h) at e in cc

  pub moved-none : None ≡ moved_of (run_of at n (run n at s)) → length s < at + n
  moved-none e = by (leb (at + n) (length s)) refl
    where
      by : (b : Bool) → leb (at + n) (length s) ≡ b → length s < at + n
      by true t = let h = leb-true (at + n) (length s) t in let f : None ≡ Some run_here.next = rw (run-there n at s h) at e in cc
      by false t = leb-false (at + n) (length s) t
