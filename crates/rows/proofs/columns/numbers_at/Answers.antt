-- `numbers_at` takes the numbers of a row that the table has whole, and none of any other.
-- A number of what is left from the row's start is the table's own.
use Prim.Native.Nat.{ℕ, ◌*◌, ◌+◌, ◌/◌}
use mathlib.Core.Path.{◌≡◌}
use native.Mathlib.Omega.{arith}
use borrow.Author.Tests.{lt-ltb, le-ltb}
use lib.ListN.{length}
use lib.Seq.{get_or-drop}
use Rattle.rows.specs.Numbers.{numbers_at, no_numbers}
use Rattle.rows.specs.declared.columns.Numbers.{Numbers}
use Rattle.rows.proofs.columns.numbers_at.Goals as goal

-- numbers that are all 0 are none
all_0 : (n : Numbers) → n.count ≡ 0 → n.first ≡ 0 → n.code ≡ 0 → n.size ≡ 0 → n.least ≡ 0 → n.greatest ≡ 0 → n.kinds ≡ 0 → n ≡ no_numbers
all_0 n a b c d e f g = λ i. record { count = a i; first = b i; code = c i; size = d i; least = e i; greatest = f i; kinds = g i }

pub returns-then-place-table : goal.returns-then-place-table
unfolding numbers_at
returns-then-place-table c =
    let a = c.args in
    let (count, (first, (code, (size, (least, (greatest, kinds)))))) = c.default.ensures in
    rw (le-ltb a.place (length a.table.now / 10) (omega arith)) (all_0 _ count first code size least greatest kinds)

pub returns : goal.returns
unfolding numbers_at
returns c =
    let a = c.args in
    let s = a.table.now in
    let at : ℕ = 10 * a.place in
    let z : 10 * a.place + 0 ≡ 10 * a.place = omega arith in
    rw (
      lt-ltb a.place (length s / 10) (omega arith),
      get_or-drop at s 0 0,
      z,
      get_or-drop at s 1 0,
      get_or-drop at s 5 0,
      get_or-drop at s 6 0,
      get_or-drop at s 7 0,
      get_or-drop at s 8 0,
      get_or-drop at s 9 0,
    )
