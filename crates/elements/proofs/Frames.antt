-- The value rule and the row's own rule, as code tests them.
-- By the value's first octet, and by the two tests in their order.
use Prim.Native.Nat.{ℕ, ◌%◌, ◌/◌, ◌^◌, ◌≤◌, ◌<◌}
use native.Mathlib.Omega.{arith}
use mathlib.Core.Path.{◌≡◌, refl}
use mathlib.Core.List.{List, [], ◌∷◌}
use mathlib.Core.Bool.{Bool, true, false}
use borrow.Author.Tests.{le-leb, lt-leb}
use lib.ListN.{length, get_or, drop}
use lib.Dec.{eqb}
use Rattle.definitions.specs.Basic.{bit, breadth, receivable}
use Rattle.definitions.specs.Rows.{Row, form, of_half}
use Rattle.definitions.specs.Length.{header}
use Rattle.definitions.specs.Elements.{taken_by}

pub empty-received : (half : Bool) (kinds : ℕ) (v : List ℕ) → length v ≡ 0 → receivable half kinds v ≡ true
unfolding receivable
empty-received half kinds [] h = refl
empty-received half kinds (x ∷ v) h = absurd (omega arith)

pub first-received : (half : Bool) (kinds : ℕ) (v : List ℕ) → 0 < length v
    → receivable half kinds v ≡ eqb (kinds / 2 ^ (get_or v 0 0 % breadth half) % 2) 1
unfolding receivable bit
first-received half kinds [] h = absurd (omega arith)
first-received half kinds (x ∷ v) h = refl

pub too_short : (r : Row) (e : List ℕ) → length e < r.least → taken_by r e ≡ false
unfolding taken_by
too_short r e h = rw (lt-leb r.least (length e) h)

pub long-enough : (r : Row) (e : List ℕ) → r.least ≤ length e → taken_by r e ≡ receivable (of_half r) r.kinds (drop (header (form r)) e)
unfolding taken_by
long-enough r e h = rw (le-leb r.least (length e) h)
