-- `receivable` is the value rule.
-- By the first octet, if there is one, and whether the form is a half octet.
use mathlib.Core.Path.{sym}
use mathlib.Core.Bool.{true, false}
use Rattle.length.proofs.First.{first-is, first-none}
use Rattle.elements.proofs.Frames.{empty-received, first-received}
use Rattle.elements.proofs.element.receivable.Goals as goal

pub returns-in_default : goal.returns-in_default
returns-in_default c = let a = c.args in sym (empty-received a.half a.kinds a.value.now (first-none a.value.now c.in_default.ensures.value))

pub returns-then-half : goal.returns-then-half
returns-then-half c =
    let a = c.args in
    let f = first-is a.value.now c.in-Some.field-0.now c.in-Some.ensures.value in
    rw c.if-half.true (rw f.1 at (sym (first-received true a.kinds a.value.now f.0)))

pub returns : goal.returns
returns c =
    let a = c.args in
    let f = first-is a.value.now c.in-Some.field-0.now c.in-Some.ensures.value in
    rw c.if-half.false (rw f.1 at (sym (first-received false a.kinds a.value.now f.0)))
