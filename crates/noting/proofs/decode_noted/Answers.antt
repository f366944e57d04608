-- `decode_noted` takes the checks that need no reading, and hands a part to the one that reads it.
-- Each has the same contract; by the table's own index what is noted is what is read.
use native.Mathlib.Omega.{arith}
use Rattle.filling.proofs.Noting.{long, no_rows}
use Rattle.noting.proofs.Own.{answers}
use Rattle.noting.proofs.decode_noted.Goals as goal

pub returns-then-octets-gt-MOST_OCTETS : goal.returns-then-octets-gt-MOST_OCTETS
returns-then-octets-gt-MOST_OCTETS c = let a = c.args in let q = answers a.table.now a.index.now a.tlve_start a.option a.octets.now a.rows.now a.kept.now a.order.now (λ j. omega (arith, c.type_inv.octets j)) (long a.table.now a.index.now a.tlve_start a.option a.octets.now a.rows.now a.kept.now a.order.now (omega arith)) in record { by_index = q.0; own_index = q.1 }

pub returns-then-rows-count : goal.returns-then-rows-count
returns-then-rows-count c = let a = c.args in let q = answers a.table.now a.index.now a.tlve_start a.option a.octets.now a.rows.now a.kept.now a.order.now (λ j. omega (arith, c.type_inv.octets j)) (no_rows a.table.now a.index.now a.tlve_start a.option a.octets.now a.rows.now a.kept.now a.order.now (omega arith) (omega (arith, c.places-count.ensures))) in record { by_index = q.0; own_index = q.1 }

pub returns-then-n-le-MOST_SHORTEST : goal.returns-then-n-le-MOST_SHORTEST
returns-then-n-le-MOST_SHORTEST c = let a = c.args in let q = answers a.table.now a.index.now a.tlve_start a.option a.octets.now a.rows.now a.kept.now a.order.now (λ j. omega (arith, c.type_inv.octets j)) c.decode_into.ensures in record { by_index = q.0; own_index = q.1 }

pub returns-then-n-le-MOST_ROWS : goal.returns-then-n-le-MOST_ROWS
returns-then-n-le-MOST_ROWS c = let a = c.args in let q = answers a.table.now a.index.now a.tlve_start a.option a.octets.now a.rows.now a.kept.now a.order.now (λ j. omega (arith, c.type_inv.octets j)) c.decode_into-then-n-le-MOST_ROWS.ensures in record { by_index = q.0; own_index = q.1 }

pub returns : goal.returns
returns c = let a = c.args in let q = answers a.table.now a.index.now a.tlve_start a.option a.octets.now a.rows.now a.kept.now a.order.now (λ j. omega (arith, c.type_inv.octets j)) c.fill_measured.ensures in record { by_index = q.0; own_index = q.1 }
