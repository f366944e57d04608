-- `number` is a number behind a position: each way out settles whether the rows have it.
-- A position past the end has none.
use native.Mathlib.Omega.{arith}
use mathlib.Core.Path.{sym}
use lib.Seq.{get_or-drop}
use Rattle.definitions.proofs.TableLaws.{past}
use Rattle.values.proofs.row.number.Goals as goal

pub returns-then-at-rows : goal.returns-then-at-rows
returns-then-at-rows c = let a = c.args in sym (past a.at a.rows.now a.column (omega arith))

pub returns-then-column-rows : goal.returns-then-column-rows
returns-then-column-rows c = let a = c.args in sym (past a.at a.rows.now a.column (omega arith))

pub returns : goal.returns
returns c = let a = c.args in sym (get_or-drop a.at a.rows.now a.column 0)
