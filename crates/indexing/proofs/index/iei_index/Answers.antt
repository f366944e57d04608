-- `iei_index` enters a row a turn: the rows left, entered from here on, give the index of the whole table.
-- The entries stay 256.
use native.Mathlib.Omega.{arith}
use mathlib.Core.Path.{refl, sym}
use Rattle.indexing.proofs.Steps.{filled-one, filled-all}
use Rattle.indexing.proofs.Marking.{indexed-rows}
use Rattle.indexing.proofs.index.iei_index.Goals as goal

pub loop-k-init : goal.loop-k-init
loop-k-init c = record { within = omega arith; size = refl; fills = indexed-rows _ }

pub slice_bounds-enter_row-end : goal.slice_bounds-enter_row-end
slice_bounds-enter_row-end c = sym c.loop-k.invariant.size

pub loop-k-preserved : goal.loop-k-preserved
loop-k-preserved c = filled-one _ _ _ _ _ c.loop-k.invariant (omega arith) c.enter_row.ensures.1

pub returns : goal.returns
returns c = filled-all _ _ _ _ _ c.loop-k.invariant (omega arith)
