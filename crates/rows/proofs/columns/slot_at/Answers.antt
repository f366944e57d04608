-- `slot_at` is one of the four numbers that stand for IEIs in the row at the place.
-- The law of row k, at this column; past the fourth there is none.
use native.Mathlib.Omega.{arith}
use Prim.Native.Nat.{◌*◌}
use mathlib.Core.Path.{ap, sym, ◌∙◌}
use lib.ListN.{get_or, take, drop, length-take, get_or-eq_default}
use lib.Seq.{get_or-drop, get_or-take}
use Rattle.definitions.specs.Rows.{Row, row_of}
use Rattle.definitions.proofs.TableLaws.{row_at_lem}
use Rattle.rows.proofs.columns.slot_at.Goals as goal

pub returns-then-number-ge4 : goal.returns-then-number-ge4
unfolding row_of
returns-then-number-ge4 c = let a = c.args in let d = drop 1 (drop (10 * a.place) a.table.now) in sym (ap (λ (r : Row). get_or r.slots a.number 0) (row_at_lem a.table.now a.place) ∙ get_or-eq_default (take 4 d) 0 (simp length-take (omega arith)))

pub returns : goal.returns
unfolding row_of
returns c =
    let a = c.args in
    let d = drop (10 * a.place) a.table.now in
    c.number_at.ensures
    ∙ sym (ap (λ (r : Row). get_or r.slots a.number 0) (row_at_lem a.table.now a.place) ∙ get_or-take 4 (drop 1 d) a.number 0 (omega arith) ∙ get_or-drop 1 d a.number 0)
