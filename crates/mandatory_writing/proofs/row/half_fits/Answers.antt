-- `half_fits` is the fit of a half.
-- By its tests.
use native.Mathlib.Omega.{arith}
use borrow.Author.Tests.{eq-eqb, ne_eqb}
use lib.ListN.{length}
use Rattle.definitions.specs.Mandatory.{fits_mandatory}
use Rattle.mandatory_writing.proofs.row.half_fits.Goals as goal

pub returns-then-value-ne1 : goal.returns-then-value-ne1
unfolding fits_mandatory
returns-then-value-ne1 c = rw (ne_eqb (length c.args.value.now) 1 c.if-value-ne1.true)

pub returns-then-source-eq1 : goal.returns-then-source-eq1
unfolding fits_mandatory
returns-then-source-eq1 c = rw (eq-eqb (length c.args.value.now) 1 (omega arith), eq-eqb c.args.source 1 c.if-source-eq1.true)

pub returns : goal.returns
unfolding fits_mandatory
returns c = rw (eq-eqb (length c.args.value.now) 1 (omega arith), ne_eqb c.args.source 1 c.if-source-eq1.false)
