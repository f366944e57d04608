-- `fault_in` asks the frame of the row's form, then the least length.
-- The form by the code and the size is the row's.
use native.Mathlib.Omega.{arith}
use mathlib.Core.Path.{◌≡◌, refl}
use mathlib.Core.Bool.{Bool, true, false, not}
use mathlib.Core.Option.{Option, none, some}
use Prim.Native.Nat.{ℕ}
use lib.ListN.{length}
use borrow.Author.Tests.{lt-ltb, le-ltb}
use Rattle.std.specs.Prelude.{is_some}
use Rattle.definitions.specs.Basic.{is_none}
use Rattle.definitions.specs.Rows.{form}
use Rattle.definitions.specs.Length.{whole}
use Rattle.definitions.specs.Why.{fault_in}
use Rattle.length.specs.Answers.{length_of}
use Rattle.rows.specs.Numbers.{row_said}
use Rattle.why.proofs.fault_in.Goals as goal
use Rattle.why.proofs.fault_in.Goals.{After-is_none}

nothing : (o : Option ℕ) (b : Bool) → is_some (length_of o) ≡ not b → b ≡ is_none o
unfolding is_none
nothing none true h = refl
nothing none false h = cc
nothing (some n) true h = cc
nothing (some n) false h = refl

-- whether the element is cut short
cut-is : (c : After-is_none) → c.is_none.result ≡ is_none (whole (form (row_said c.args.row)) c.args.element.now)
unfolding form
cut-is c = nothing (whole (form (row_said c.args.row)) c.args.element.now) c.is_none.result (rw (c.frame.ensures, c.form_of.ensures) at c.is_none.ensures)

pub returns-then-is_none : goal.returns-then-is_none
unfolding fault_in
returns-then-is_none c = rw (← cut-is (goal.at.returns-then-is_none c).After-is_none, c.if-is_none.true) refl

pub returns-then-element-row : goal.returns-then-element-row
unfolding fault_in
returns-then-element-row c = rw (← cut-is (goal.at.returns-then-element-row c).After-is_none, c.if-is_none.false, lt-ltb (length c.args.element.now) c.args.row.least (omega arith)) refl

pub returns : goal.returns
unfolding fault_in
returns c = rw (← cut-is (goal.at.returns c).After-is_none, c.if-is_none.false, le-ltb (length c.args.element.now) c.args.row.least (omega arith)) refl
