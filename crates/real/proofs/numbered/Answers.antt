-- `numbered` is the table that a number names, with its index, number by number.
-- Each static is the definition's list; that an index is the index of its table is the rule of the constants.
use Prim.Native.Nat.{ℕ}
use mathlib.Core.Path.{refl, sym}
use native.Mathlib.Omega.{arith}
use Rattle.definitions.specs.Basic.{concat}
use Rattle.definitions.specs.Tables.{table_of, row, table_p, optional1, optional2, optional3, optional4, optional5, optional6}
use Rattle.real.specs.Real.{real_index_of, index0, index1, index2, index3, index4, index5, index6}
use Rattle.real.specs.Numbered.{IsNumbered}
use Rattle.real.proofs.RealLaws.{real, no_table}
use Rattle.real.proofs.numbered.Goals as goal

pub returns-in-0 : goal.returns-in-0
unfolding table_of concat row table_p real_index_of index0
returns-in-0 c = rw (c.numbered_by.ensures, c.in-0.is) (refl, (real 0).entries)

pub returns-in-1 : goal.returns-in-1
unfolding table_of concat row optional1 real_index_of index1
returns-in-1 c = rw (c.numbered_by-in-1.ensures, c.in-1.is) (refl, (real 1).entries)

pub returns-in-2 : goal.returns-in-2
unfolding table_of concat row optional2 real_index_of index2
returns-in-2 c = rw (c.numbered_by-in-2.ensures, c.in-2.is) (refl, (real 2).entries)

pub returns-in-3 : goal.returns-in-3
unfolding table_of concat row optional3 real_index_of index3
returns-in-3 c = rw (c.numbered_by-in-3.ensures, c.in-3.is) (refl, (real 3).entries)

pub returns-in-4 : goal.returns-in-4
unfolding table_of concat row optional4 real_index_of index4
returns-in-4 c = rw (c.numbered_by-in-4.ensures, c.in-4.is) (refl, (real 4).entries)

pub returns-in-5 : goal.returns-in-5
unfolding table_of concat row optional5 real_index_of index5
returns-in-5 c = rw (c.numbered_by-in-5.ensures, c.in-5.is) (refl, (real 5).entries)

pub returns-in-6 : goal.returns-in-6
unfolding table_of concat row optional6 real_index_of index6
returns-in-6 c = rw (c.numbered_by-in-6.ensures, c.in-6.is) (refl, (real 6).entries)

pub returns-in_default : goal.returns-in_default
returns-in_default c = no_table c.args.number (λ e. omega arith) (λ e. omega arith) (λ e. omega arith) (λ e. omega arith) (λ e. omega arith) (λ e. omega arith) (λ e. omega arith)
