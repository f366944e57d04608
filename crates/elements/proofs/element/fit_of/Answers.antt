-- `fit_of` is an element by its row: as long as the form says, and taken or not; cut short, the rest and not taken.
-- The length answered is that of the form that the row's numbers say.
use native.Mathlib.Omega.{arith}
use mathlib.Core.Path.{◌≡◌, sym, ◌∙◌}
use mathlib.Core.Option.{none, some}
use lib.ListN.{length-take}
use lib.Seq.{length-take-le}
use Rattle.definitions.specs.Rows.{form}
use Rattle.definitions.specs.Length.{whole}
use Rattle.definitions.specs.Elements.{taken, octets_of}
use Rattle.definitions.proofs.Steps.{Frames, whole-frames}
use Rattle.length.proofs.Laws.{length-is, length_cut}
use Rattle.rows.specs.Forms.{form_as}
use Rattle.rows.specs.Numbers.{row_said}
use Rattle.elements.specs.Steps.{fit_of}
use Rattle.elements.proofs.element.fit_of.Goals as goal
use Rattle.elements.proofs.element.fit_of.Goals.{In-Some}

-- the length that was found, and what is known of it
whole_is : (c : In-Some) → whole (form (row_said c.args.row)) c.args.left.now ≡ some c.in-Some.n
unfolding form
whole_is c = let a = c.args in rw c.form_of.ensures at (length-is (whole (form_as c.form_of.result) a.left.now) (sym c.in-Some.is ∙ c.frame.ensures))

framed : (c : In-Some) → Frames (form (row_said c.args.row)) c.args.left.now (some c.in-Some.n)
framed c = let a = c.args in rw (whole_is c) at (whole-frames (form (row_said a.row)) a.left.now)

pub slice_bounds-taken_by-end : goal.slice_bounds-taken_by-end
slice_bounds-taken_by-end c = let f = framed (goal.at.slice_bounds-taken_by-end c).In-Some in simp length-take (omega arith)

pub taken_by-requires : goal.taken_by-requires
taken_by-requires c = let f = framed (goal.at.taken_by-requires c).In-Some in simp length-take (omega arith)

pub returns-in-Some : goal.returns-in-Some
unfolding fit_of taken octets_of
returns-in-Some c =
    let a = c.args in
    let f = framed (goal.at.returns-in-Some c).In-Some in
    rw (whole_is (goal.at.returns-in-Some c).In-Some, length-take-le c.in-Some.n a.left.now f.1, c.taken_by.ensures)

pub returns-in-None : goal.returns-in-None
unfolding fit_of taken octets_of form
returns-in-None c =
    let a = c.args in
    let e : whole (form (row_said a.row)) a.left.now ≡ none = rw c.form_of.ensures at (length_cut (whole (form_as c.form_of.result) a.left.now) (sym c.in-None.is ∙ c.frame.ensures)) in
    rw e
