-- `one_passes` goes by the form: each asks what is left of the ranges, and of the IEI.
-- A form that is not in range is judged at once.
use native.Mathlib.Omega.{arith}
use Rattle.std.proofs.lemmas.Bool.Decides.{nat_tests}
use mathlib.Core.Path.{◌≡◌, ◌∙◌, sym}
use mathlib.Core.Bool.{true, false, ◌&&◌, ◌||◌, not, false≢true}
use lib.Dec.{eqb, leb}
use borrow.Author.Tests.{le-leb, lt-leb, eq-eqb, ne_eqb, leb-true}
use Rattle.definitions.specs.Rows.{good_iei}
use Rattle.definitions.proofs.RowLaws.{both}
use Rattle.indexing.specs.Marks.{free}
use Rattle.checks.proofs.RowChecks.{by_form, no-form, no_size}
use Rattle.checks.proofs.one_passes.Goals as goal

pub returns-then-contains : goal.returns-then-contains
returns-then-contains c =
    let n = c.args.row in
    let w : (leb 2 n.code && leb n.code 3) ≡ true = grind (arith, nat_tests) in
    let b = both (leb 2 n.code) (leb n.code 3) w in
    let l = leb-true 2 n.code b.0 in
    let z : eqb n.code 0 ≡ false = ne_eqb n.code 0 (omega (arith, l)) in
    let s : (not (eqb n.code 1) || leb n.size 255) ≡ true = rw (ne_eqb n.code 1 (omega (arith, l))) in
    let e = c.rest_passes.ensures in
    (rw z (e.0 ∙ by_form n.code n.size n.least n.greatest n.kinds false (good_iei false n.first && free c.args.index.now n.first) z (leb-true n.code 3 b.1) s), e.1)

pub returns-in-0 : goal.returns-in-0
returns-in-0 c =
    let n = c.args.row in
    let z : eqb n.code 0 ≡ true = eq-eqb n.code 0 (omega arith) in
    let s : (not (eqb n.code 1) || leb n.size 255) ≡ true = rw (ne_eqb n.code 1 (omega arith)) in
    let e = c.rest_passes-in-0.ensures in
    (rw z (e.0 ∙ by_form n.code n.size n.least n.greatest n.kinds true (good_iei true n.first && free c.args.index.now n.first) z (omega arith) s), e.1)

pub returns-in-1 : goal.returns-in-1
returns-in-1 c =
    let n = c.args.row in
    let z : eqb n.code 0 ≡ false = ne_eqb n.code 0 (omega arith) in
    let s : (not (eqb n.code 1) || leb n.size 255) ≡ true = rw (eq-eqb n.code 1 (omega arith), le-leb n.size 255 (omega arith)) in
    let e = c.rest_passes-in-1.ensures in
    (rw z (e.0 ∙ by_form n.code n.size n.least n.greatest n.kinds false (good_iei false n.first && free c.args.index.now n.first) z (omega arith) s), e.1)

pub returns-in_default : goal.returns-in_default
returns-in_default c =
    let n = c.args.row in
    let s : (not (eqb n.code 1) || leb n.size 255) ≡ false = rw (eq-eqb n.code 1 (omega arith), lt-leb n.size 255 (omega arith)) in
    (sym (no_size n.code n.size n.least n.greatest n.kinds s _), λ q. absurd (false≢true q))

pub returns-in_default-2 : goal.returns-in_default-2
returns-in_default-2 c =
    let n = c.args.row in
    let s : leb n.code 3 ≡ false = grind (arith, nat_tests) in
    (sym (no-form n.code n.size n.least n.greatest n.kinds s _), λ q. absurd (false≢true q))
