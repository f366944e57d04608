-- What an answer says of the lent buffer: a text that was written fits.
-- By the test of the room.
use Prim.Native.Nat.{ℕ, ◌≤◌}
use native.Mathlib.Omega.{arith}
use mathlib.Core.Path.{◌≡◌, refl}
use mathlib.Core.Bool.{Bool, true, false}
use lib.Dec.{leb}
use borrow.Author.Tests.{leb-true}
use Rattle.std.specs.Prelude.{Ok, Err}
use Rattle.definitions.specs.Basic.{pick}
use Rattle.listing.specs.declared.NoRoom.{NoRoom}

abbrev pub no_room : ℕ → NoRoom
no_room n = record { need = n }

pub written-fits : (a b : ℕ) {n : ℕ} → Ok n ≡ pick (leb a b) (Ok a) (Err (no_room a)) → n ≤ b
written-fits a b {n} e = by (leb a b) refl e
  where
    by : (t : Bool) → leb a b ≡ t → Ok n ≡ pick t (Ok a) (Err (no_room a)) → n ≤ b
    by true h q =
        let i : n ≡ a = cc in
        omega (arith, leb-true a b h)
    by false h q = let z : ◌≡◌ {A = ℕ} 0 1 = cc in absurd (omega arith)
