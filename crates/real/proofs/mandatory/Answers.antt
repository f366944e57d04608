-- `mandatory` has the rows that a number names, number by number.
-- Each static is the definition's list; P has no row.
use mathlib.Core.Path.{refl}
use native.Mathlib.Omega.{arith}
use Rattle.definitions.specs.Basic.{concat}
use Rattle.definitions.specs.Tables.{mandatory_table_of, plain, mandatory1, mandatory2, mandatory3, mandatory4, mandatory5, mandatory6}
use Rattle.real.proofs.RealLaws.{mandatory-further}
use Rattle.real.proofs.mandatory.Goals as goal

pub returns-in-0 : goal.returns-in-0
unfolding mandatory_table_of concat plain
returns-in-0 c = rw c.in-0.is refl

pub returns-in-1 : goal.returns-in-1
unfolding mandatory_table_of concat plain mandatory1
returns-in-1 c = rw c.in-1.is refl

pub returns-in-2 : goal.returns-in-2
unfolding mandatory_table_of concat plain mandatory2
returns-in-2 c = rw c.in-2.is refl

pub returns-in-3 : goal.returns-in-3
unfolding mandatory_table_of concat plain mandatory3
returns-in-3 c = rw c.in-3.is refl

pub returns-in-4 : goal.returns-in-4
unfolding mandatory_table_of concat plain mandatory4
returns-in-4 c = rw c.in-4.is refl

pub returns-in-5 : goal.returns-in-5
unfolding mandatory_table_of concat plain mandatory5
returns-in-5 c = rw c.in-5.is refl

pub returns-in-6 : goal.returns-in-6
unfolding mandatory_table_of concat plain mandatory6
returns-in-6 c = rw c.in-6.is refl

pub returns-in-7-to-4294967295 : goal.returns-in-7-to-4294967295
returns-in-7-to-4294967295 c = rw (mandatory-further c.args.number (λ e. omega arith) (λ e. omega arith) (λ e. omega arith) (λ e. omega arith) (λ e. omega arith) (λ e. omega arith) (λ e. omega arith)) refl
