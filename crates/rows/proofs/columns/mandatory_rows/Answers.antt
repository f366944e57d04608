-- `mandatory_rows` counts the rows, an unfinished one too.
-- The law of how many rows a table has, and arithmetic.
use native.Mathlib.Omega.{arith}
use Rattle.definitions.proofs.TableLaws.{mandatory-count}
use Rattle.rows.proofs.columns.mandatory_rows.Goals as goal

pub returns : goal.returns
returns c = omega (arith, mandatory-count c.args.table.now)
