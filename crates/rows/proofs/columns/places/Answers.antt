-- `places` counts the rows, an unfinished one too.
-- The law of how many rows a table has, and arithmetic.
use native.Mathlib.Omega.{arith}
use Rattle.definitions.proofs.TableLaws.{row_count}
use Rattle.rows.proofs.columns.places.Goals as goal

pub returns : goal.returns
returns c = omega (arith, row_count c.args.table.now)
