-- `enter_free` enters an IEI where its entry is free.
-- Past the end there is no entry; else the entry's test is the definition's.
use native.Mathlib.Omega.{arith}
use mathlib.Core.Path.{◌≡◌, sym}
use mathlib.Core.Bool.{true, false}
use lib.ListN.{get_or-eq_default}
use borrow.Author.Tests.{eq-eqb, ne_eqb}
use Rattle.std.proofs.lemmas.List.{get_or_read}
use Rattle.indexing.specs.Marks.{free, enter}
use Rattle.indexing.proofs.marks.enter_free.Goals as goal

pub returns-in-Some : goal.returns-in-Some
unfolding enter
returns-in-Some c =
    let a = c.args in
    let l = c.in-Some.ensures.lookup in
    let r = get_or_read a.index.now a.iei _ (omega (arith, l)) l.1 0 in
    let e : free a.index.now a.iei ≡ true = eq-eqb _ _ (omega (arith, r)) in
    (sym e, rw e)

pub returns-in_default : goal.returns-in_default
unfolding enter
returns-in_default c =
    let a = c.args in
    let l = c.in-Some.ensures.lookup in
    let r = get_or_read a.index.now a.iei _ (omega (arith, l)) l.1 0 in
    let e : free a.index.now a.iei ≡ false = ne_eqb _ _ (omega (arith, r)) in
    (sym e, rw e)

pub returns-in_default-2 : goal.returns-in_default-2
unfolding enter
returns-in_default-2 c =
    let a = c.args in
    let l = rw c.in_default.is at c.get.ensures.lookup in
    let e : free a.index.now a.iei ≡ false = rw (get_or-eq_default a.index.now 0 {n = a.iei} (omega (arith, l))) in
    (sym e, rw e)
