-- `is_paired` is the rule of halves.
-- Each arm settles the code.
use native.Mathlib.Omega.{arith}
use mathlib.Core.Path.{◌≡◌, sym}
use mathlib.Core.Bool.{and-true}
use lib.Dec.{eqb}
use borrow.Author.Tests.{ne_eqb}
use Rattle.checks.specs.Passes.{paired}
use Rattle.checks.proofs.is_paired.Goals as goal

pub returns-in-0 : goal.returns-in-0
unfolding paired
returns-in-0 c = let e : c.args.code ≡ 0 = omega arith in rw e (sym (and-true (eqb c.args.next 1)))

pub returns-in-1 : goal.returns-in-1
unfolding paired
returns-in-1 c = let e : c.args.code ≡ 1 = omega arith in rw e

pub returns-in_default : goal.returns-in_default
unfolding paired
returns-in_default c = let a = c.args in rw (ne_eqb a.code 0 (omega arith), ne_eqb a.code 1 (omega arith))
