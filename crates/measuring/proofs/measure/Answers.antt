-- `measure` walks over as many elements as the part has octets, which are all of them.
-- What the walk needs with nothing before it is what the part needs.
use Prim.Native.Nat.{ℕ, ◌<◌}
use native.Mathlib.Omega.{arith}
use mathlib.Core.Path.{◌≡◌, ap, sym, ◌∙◌}
use mathlib.Core.List.{List}
use mathlib.Core.Bool.{Bool}
use lib.ListN.{length, get_or}
use Rattle.std.specs.Prelude.{Result}
use Rattle.std.proofs.lemmas.Result.{err_from_is_err_and}
use Rattle.definitions.specs.Rows.{rows_of}
use Rattle.definitions.specs.Elements.{parted}
use Rattle.rows.specs.Indexed.{Indexed}
use Rattle.by_index.specs.ByIndex.{rows_by}
use Rattle.by_index.proofs.Own.{parted-same}
use Rattle.elements.specs.Nexts.{start_state}
use Rattle.elements.specs.Walked.{begun, stepped}
use Rattle.elements.specs.declared.element.Cut.{Cut}
use Rattle.elements.specs.declared.walk.Tally.{Tally}
use Rattle.elements.specs.declared.walk.Walk.{Walk}
use Rattle.elements.proofs.Nexts.{from_start}
use Rattle.measuring.specs.Measures.{measured}
use Rattle.measuring.proofs.Tallies.{measured_from, none_before, walk_needs, walk-needs}
use Rattle.measuring.proofs.measure.Goals as goal

module _ (table index : List ℕ) (start : ℕ) (option : Bool) (part : List ℕ) where
  -- by any index
  needed : {r : Result Walk Cut} → r ≡ stepped (rows_by table index) start option part (length part) (begun start_state) → walk_needs r ≡ measured (parted (rows_by table index) start option part)
  needed e =
      ap walk_needs e
      ∙ walk-needs (rows_by table index) start option part (length part) (begun start_state) (omega arith) (omega arith)
      ∙ ap (measured_from _) (from_start (rows_by table index) start option part)
      ∙ none_before (parted (rows_by table index) start option part)

  -- by the table's own
  own : ((j : ℕ) → get_or part j 0 < 256) → {r : Result Tally Cut} → r ≡ measured (parted (rows_by table index) start option part) → Indexed table index → r ≡ measured (parted (rows_of table) start option part)
  own octets e i = e ∙ ap measured (parted-same table index i start option part octets)

pub returns-clause-by_index : goal.returns-clause-by_index
returns-clause-by_index c =
    let a = c.args in needed a.table.now a.index.now a.tlve_start a.option a.part.now (sym c.in_ok-walk.was ∙ rw c.start_state.ensures at c.steps.ensures)

pub returns-clause-own_index : goal.returns-clause-own_index
returns-clause-own_index c =
    let a = c.args in
    own a.table.now a.index.now a.tlve_start a.option a.part.now (λ j. omega (arith, c.type_inv.part j))
    (needed a.table.now a.index.now a.tlve_start a.option a.part.now (sym c.in_ok-walk.was ∙ rw c.start_state.ensures at c.steps.ensures))

pub returns-in_err-walk-clause-by_index : goal.returns-in_err-walk-clause-by_index
returns-in_err-walk-clause-by_index c =
    let a = c.args in
    let p = err_from_is_err_and c.from_residual.result c.from_residual.ensures.1 in
    rw (p.1, p.2) (needed a.table.now a.index.now a.tlve_start a.option a.part.now (sym c.in_err-walk.was ∙ rw c.start_state.ensures at c.steps.ensures))

pub returns-in_err-walk-clause-own_index : goal.returns-in_err-walk-clause-own_index
returns-in_err-walk-clause-own_index c =
    let a = c.args in
    let p = err_from_is_err_and c.from_residual.result c.from_residual.ensures.1 in
    let e =
    own a.table.now a.index.now a.tlve_start a.option a.part.now (λ j. omega (arith, c.type_inv.part j))
    (needed a.table.now a.index.now a.tlve_start a.option a.part.now (sym c.in_err-walk.was ∙ rw c.start_state.ensures at c.steps.ensures)) in
    λ i. rw (p.1, p.2) (e i)
