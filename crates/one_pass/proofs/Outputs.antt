-- Which messages the pass looks at, and what it wrote of one.
-- Without logs there are the places alone.
use Prim.Native.Nat.{ℕ, ◌+◌, ◌-◌, ◌≤◌, ◌<◌, min}
use native.Mathlib.Omega.{arith}
use mathlib.Core.Path.{◌≡◌, refl, sym}
use mathlib.Core.List.{List, [], ◌∷◌}
use mathlib.Core.Bool.{Bool, true, false}
use mathlib.Core.Option.{Option, none, some}
use borrow.Author.Tests.{leb-true, le-ltb, lt-ltb}
use lib.ListN.{length}
use lib.Dec.{leb, ltb}
use Rattle.definitions.specs.Basic.{pick, concat, over}
use Rattle.definitions.specs.Rows.{rows_of}
use Rattle.definitions.specs.Logs.{order_list, order_list_f, kept_list, kept_list_f, or_empty}
use Rattle.placing.specs.Pieces.{Lent, ranged, held_to, WroteBy, capacity}
use Rattle.one_pass.specs.Passes.{passed, left_by, passed_by, short_by}
use Rattle.placing.proofs.Pieces.{none-not}
use Rattle.std.specs.Prelude.{Option as Answered, Some, None}
use Rattle.unnamed.proofs.Naming.{joined-last, names-empty, none_named}

-- without logs there are the places alone
unlogged : (m : Lent) (ix : List ℕ) → ranged m 0 (length (rows_of m.table)) ≡ short_by m ix [] []
unfolding short_by passed_by left_by passed order_list order_list_f kept_list kept_list_f concat
unlogged m ix =
    let n : ℕ = length (rows_of m.table) in
    let z : n - 0 ≡ n = omega arith in
    rw (z, names-empty ix m.rows n, none_named m n 0) (sym (joined-last (ranged m 0 n)))

pub without-logs : (m : Lent) (ix order kept : List ℕ) → length order ≡ 0 → length kept ≡ 0 → {before after : List ℕ} {r : Answered ℕ}
    → WroteBy (capacity (length (rows_of m.table)) 0) (ranged m 0 (length (rows_of m.table))) before r after
    → WroteBy (capacity (length (rows_of m.table)) (length kept)) (short_by m ix order kept) before r after
without-logs m ix [] [] h g w = rw (unlogged m ix) at w
without-logs m ix [] (k ∷ ks) h g w = absurd (omega arith)
without-logs m ix (o ∷ os) kept h g w = absurd (omega arith)

-- a kept log that is looked at, or is too long
pub short-enough : (m : Lent) (ix order kept : List ℕ) → length kept ≤ 512 → passed_by m ix order kept ≡ short_by m ix order kept
unfolding short_by
short-enough m ix order kept h = rw (le-ltb 512 (length kept))

pub not_short : (m : Lent) (ix order kept : List ℕ) → 512 < length kept → {room : ℕ} {before : List ℕ} → WroteBy room (short_by m ix order kept) before None before
unfolding short_by
not_short m ix order kept h {room = room} {before = before} =
    record { answers = sym (none-not (min room (length before)) 0 (rw (lt-ltb 512 (length kept)))); done = λ n e. let y : ◌≡◌ {A = ℕ} 0 1 = cc in absurd (omega arith); not_done = λ e. refl }

-- ---- what was written

pub record WroteAll (m : Lent) (ix order kept before : List ℕ) (n : ℕ) (after : List ℕ) : Type 0 where
  pub octets : List ℕ
  pub passed_is : passed_by m ix order kept ≡ some octets
  pub long : n ≡ length octets
  pub room : n ≤ length before
  pub is : after ≡ over octets before

module _ (m : Lent) (ix order kept : List ℕ) (room : ℕ) (before : List ℕ) where
  looked-at : {s : List ℕ} → short_by m ix order kept ≡ some s → passed_by m ix order kept ≡ some s
  unfolding short_by
  looked-at {s = s} e = by (ltb 512 (length kept)) e
    where
      by : (b : Bool) → pick b none (passed_by m ix order kept) ≡ some s → passed_by m ix order kept ≡ some s
      by true f = let y : ◌≡◌ {A = ℕ} 0 1 = cc in absurd (omega arith)
      by false f = f

  pub wrote-all : {n : ℕ} {after : List ℕ} → WroteBy room (short_by m ix order kept) before (Some n) after → WroteAll m ix order kept before n after
  unfolding held_to or_empty
  wrote-all {n = n} {after = after} w = by (short_by m ix order kept) refl w.answers (w.done n refl)
    where
      by : (o : Option (List ℕ)) → short_by m ix order kept ≡ o → Some n ≡ held_to (min room (length before)) 0 o → after ≡ over (or_empty o) before → WroteAll m ix order kept before n after
      by none e a d = let y : ◌≡◌ {A = ℕ} 0 1 = cc in absurd (omega arith)
      by (some s) e a d = held_by (leb (0 + length s) (min room (length before))) refl a
        where
          held_by : (b : Bool) → leb (0 + length s) (min room (length before)) ≡ b → Some n ≡ pick b (Some (0 + length s)) None → WroteAll m ix order kept before n after
          held_by false q f = let y : ◌≡◌ {A = ℕ} 0 1 = cc in absurd (omega arith)
          held_by true q f =
              let y : n ≡ 0 + length s = cc in
              record { octets = s; passed_is = looked-at e; long = omega arith; room = omega (arith, leb-true (0 + length s) (min room (length before)) q); is = d }
