-- `iei_count` is how many IEIs the row lists: its count, or as many of four as the table has.
-- By arithmetic from the law of that number.
use native.Mathlib.Omega.{arith}
use Rattle.definitions.proofs.TableLaws.{iei-count, count-is}
use Rattle.rows.proofs.columns.iei_count.Goals as goal

pub returns-then-place-table : goal.returns-then-place-table
returns-then-place-table c = let a = c.args in omega (arith, iei-count a.table.now a.place, count-is a.table.now a.place)

pub returns : goal.returns
returns c = let a = c.args in omega (arith, iei-count a.table.now a.place, count-is a.table.now a.place)
