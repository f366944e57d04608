-- `mandatory_row_at` is the three numbers of a row, at once or one by one.
-- Each is the definition's; a row that begins past the end has none.
use Prim.Native.Nat.{ℕ, ◌+◌, ◌*◌}
use native.Mathlib.Omega.{arith}
use mathlib.Core.Path.{◌≡◌, refl, ap, ◌∙◌}
use lib.ListN.{get_or, drop, get_or-eq_default}
use lib.Seq.{get_or-drop}
use Rattle.definitions.specs.Values.{value_in}
use Rattle.values.proofs.row.mandatory_row_at.Goals as goal

pub returns-then-row-rows : goal.returns-then-row-rows
unfolding value_in
returns-then-row-rows c = refl

pub returns-then-row-rows-2 : goal.returns-then-row-rows-2
unfolding value_in
returns-then-row-rows-2 c = let a = c.args in rw (get_or-eq_default a.rows.now 0 {n = 3 * a.row} (omega arith), get_or-eq_default a.rows.now 0 {n = 3 * a.row + 1} (omega arith), get_or-eq_default a.rows.now 0 {n = 3 * a.row + 2} (omega arith))

pub returns : goal.returns
unfolding value_in
returns c = let a = c.args in
    let z : 3 * a.row + 0 ≡ 3 * a.row = omega arith in
    let d : (j : ℕ) → get_or (drop (3 * a.row) a.rows.now) j 0 ≡ get_or a.rows.now (3 * a.row + j) 0 = λ j. get_or-drop (3 * a.row) a.rows.now j 0 in
    rw (c.number.ensures ∙ d 0 ∙ ap (λ (n : ℕ). get_or a.rows.now n 0) z, c.number-2.ensures ∙ d 1, c.number-3.ensures ∙ d 2)
