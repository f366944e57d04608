-- `enter_row` enters an element that its row took, and no other.
-- By the numbers of its row; an accepted element has a place, and its row is there.
use Prim.Native.Nat.{ℕ, ◌+◌, ◌*◌, ◌≤◌, ◌<◌}
use native.Mathlib.Omega.{arith}
use mathlib.Core.Path.{◌≡◌, refl, ap, sym, ◌∙◌}
use mathlib.Core.List.{List}
use lib.ListN.{length}
use Rattle.std.specs.Prelude.{Option as Answered}
use Rattle.definitions.specs.Rows.{form}
use Rattle.definitions.specs.Length.{header}
use Rattle.order.specs.declared.Placed.{Placed}
use Rattle.rows.proofs.PutRow.{put-there}
use Rattle.filling.specs.Fills.{head_said, said_by, said_entered}
use Rattle.filling.proofs.fill.enter_row.Goals as goal
use Rattle.filling.proofs.fill.enter_row.Goals.{After-header-h}

measured : (c : After-header-h) → c.header-h.result ≡ head_said c.args.table.now c.in-Some.place
unfolding form
measured c = c.header-h.ensures ∙ ap header (c.form_of.ensures ∙ rw c.numbers_at-row.ensures)

fits : (c : After-header-h) → (4 * c.in-Some.place + 4 ≤ length c.args.rows.now) × (c.header-h.result ≤ c.args.e.len) × (c.args.e.start + c.args.e.len < 65536)
unfolding form
fits c = rw (measured c) (rw (c.in-Known.is, c.in-Some.is) at c.requires)

-- an element that is not accepted has no row
aside : (table : List ℕ) (k : Answered ℕ) (start len : ℕ) (rows : List ℕ) (p : Placed) → ((i : ℕ) → p ≡ Placed.Known i → ⊥) → said_by table k start len rows p ≡ rows
aside table k start len rows Placed.Unknown h = refl
aside table k start len rows (Placed.Ignored r) h = refl
aside table k start len rows (Placed.Known i) h = absurd (h i refl)

pub returns-in_default : goal.returns-in_default
unfolding said_entered
returns-in_default c = let a = c.args in sym (aside a.table.now a.e.place a.e.start a.e.len a.rows.now a.e.placed c.in_default.not-Known)

pub overflow_mul-place : goal.overflow_mul-place
overflow_mul-place c = let f = fits (goal.at.overflow_mul-place c).After-header-h in omega arith

pub overflow_add-start : goal.overflow_add-start
overflow_add-start c = let f = fits (goal.at.overflow_add-start c).After-header-h in omega arith

pub overflow_cast-start : goal.overflow_cast-start
overflow_cast-start c = let f = fits (goal.at.overflow_cast-start c).After-header-h in omega arith

pub overflow_sub-len : goal.overflow_sub-len
overflow_sub-len c = let f = fits (goal.at.overflow_sub-len c).After-header-h in omega arith

pub overflow_cast-len : goal.overflow_cast-len
overflow_cast-len c = let f = fits (goal.at.overflow_cast-len c).After-header-h in omega arith

pub returns : goal.returns
unfolding said_entered form
returns c =
    let e = c.args.e in
    let k = c.in-Some.place in
    let f = fits (goal.at.returns c).After-header-h in
    let h = measured (goal.at.returns c).After-header-h in
    rw (c.in-Some.is, c.in-Known.is) (c.put_row.ensures ∙ put-there (4 * k) _ c.args.rows.now f.0 ∙ rw h (cc))
