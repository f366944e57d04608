-- `is_good` is the rule of a row by its source.
-- Each way out names the source; of a present value the sources have one.
use native.Mathlib.Omega.{arith}
use mathlib.Core.Path.{sym}
use Rattle.std.proofs.Common.{rules}
use Rattle.values.specs.Rows.{sources_of, value_of}
use Rattle.values.proofs.Showing.{good-over, good-absent, good-present}
use Rattle.values.proofs.row.is_good.Goals as goal

pub returns-then-row-gt2 : goal.returns-then-row-gt2
returns-then-row-gt2 c = let a = c.args in sym (good-over (sources_of a.received.now a.set.now) (value_of a.row) (omega arith))

pub returns-then-row-eq0-3 : goal.returns-then-row-eq0-3
returns-then-row-eq0-3 c = let a = c.args in rw (good-absent (sources_of a.received.now a.set.now) (value_of a.row) (omega arith)) (search rules)

pub returns-else-row-eq0-3 : goal.returns-else-row-eq0-3
returns-else-row-eq0-3 c = let a = c.args in rw (good-absent (sources_of a.received.now a.set.now) (value_of a.row) (omega arith)) (search rules)

pub returns : goal.returns
returns c = let a = c.args in rw c.limit_of.ensures (sym (good-present (sources_of a.received.now a.set.now) (value_of a.row) (let z = c.if-row-eq0.false in omega arith) (omega (arith, c.if-row-gt2.false))))
