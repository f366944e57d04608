-- `form_of` is the form of a code.
-- Each arm names the code; the codes from 3 on are one form.
use native.Mathlib.Omega.{arith}
use mathlib.Core.Path.{◌≡◌, sym}
use Rattle.definitions.specs.Rows.{form_of}
use Rattle.definitions.proofs.TableLaws.{form-long}
use Rattle.rows.proofs.columns.form_of.Goals as goal

pub returns-in-0 : goal.returns-in-0
unfolding form_of
returns-in-0 c = let e : c.args.code ≡ 0 = omega arith in rw e

pub returns-in-1 : goal.returns-in-1
unfolding form_of
returns-in-1 c = let e : c.args.code ≡ 1 = omega arith in rw e

pub returns-in-2 : goal.returns-in-2
unfolding form_of
returns-in-2 c = let e : c.args.code ≡ 2 = omega arith in rw e

pub returns-in_default : goal.returns-in_default
returns-in_default c = let a = c.args in sym (form-long a.code a.size (omega arith))
