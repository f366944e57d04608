-- `check_rows` takes a whole row a turn: what is left to check and to enter from here on gives what the whole table does.
-- A row behind the whole ones is unfinished.
use native.Mathlib.Omega.{arith}
use Prim.Native.Nat.{ℕ, ◌/◌, ◌<◌}
use mathlib.Core.Path.{◌≡◌, refl, ap, sym, ◌∙◌}
use borrow.Author.Tests.{not-true, not-false}
use lib.ListN.{length}
use Rattle.definitions.specs.Rows.{rows_of, row_at}
use Rattle.definitions.proofs.TableLaws.{row_count}
use Rattle.indexing.specs.Marks.{enter}
use Rattle.checks.specs.Passes.{passes}
use Rattle.checks.proofs.Steps.{checking, checked-one, bad-row, too_many, checked-all}
use Rattle.checks.proofs.RowChecks.{one-judged, one-enters, past-whole}
use Rattle.checks.proofs.check_rows.Goals as goal
use Rattle.checks.proofs.check_rows.Goals.{then-row-eq1+else-not-one_passes, else-row-eq1+else-not-more_pass}

pub loop-k-init : goal.loop-k-init
loop-k-init c = checking _ _

pub returns-then-k-ge-MOST_PLACES : goal.returns-then-k-ge-MOST_PLACES
returns-then-k-ge-MOST_PLACES c = too_many _ _ _ _ c.loop-k.invariant (omega (arith, row_count c.args.table.now)) c.if-k-ge-MOST_PLACES.true

pub returns-then-not-one_passes : goal.returns-then-not-one_passes
returns-then-not-one_passes c =
    let one : c.one_passes.result ≡ passes c.loop-k.k (row_at (rows_of c.args.table.now) c.loop-k.k) c.loop-k.index = c.one_passes.ensures.0 ∙ sym (one-judged _ _ _ _ c.numbers_at-row.ensures c.if-row-eq1.true) in
    bad-row _ _ _ _ c.loop-k.invariant (omega (arith, row_count c.args.table.now)) (omega (arith, c.if-k-ge-MOST_PLACES.false)) (sym (one) ∙ c.if-not-one_passes.true) _

pub returns-then-not-more_pass : goal.returns-then-not-more_pass
returns-then-not-more_pass c = bad-row _ _ _ _ c.loop-k.invariant (omega (arith, row_count c.args.table.now)) (omega (arith, c.if-k-ge-MOST_PLACES.false)) (sym c.more_pass.ensures.0 ∙ c.if-not-more_pass.true) _

pub loop-k-preserved : goal.loop-k-preserved
loop-k-preserved c =
    let n = c.numbers_at-row.result in
    let within : c.loop-k.k < length (rows_of c.args.table.now) = omega (arith, row_count c.args.table.now) in
    let few : c.loop-k.k < 128 = omega (arith, c.if-k-ge-MOST_PLACES.false) in
    elim c.if-row-eq1.branch [
      | then-row-eq1+else-not-one_passes w ↦
          let q = w.if-not-one_passes.false in
          let m = ap (λ (m : ℕ). enter m n.first c.loop-k.index) w.mark_of.ensures in
          checked-one _ _ _ _ c.loop-k.invariant within few (one-judged _ _ _ _ c.numbers_at-row.ensures w.if-row-eq1.true ∙ sym w.one_passes.ensures.0 ∙ q) (w.index-is ∙ w.one_passes.ensures.1 q ∙ m ∙ sym (one-enters _ _ _ _ c.numbers_at-row.ensures w.if-row-eq1.true w.one_passes.ensures.0 q))
      | else-row-eq1+else-not-more_pass w ↦
          let q = w.if-not-more_pass.false in
          checked-one _ _ _ _ c.loop-k.invariant within few (sym w.more_pass.ensures.0 ∙ q) (w.index-is ∙ w.more_pass.ensures.1 q)
    ]

pub returns-then-places-n : goal.returns-then-places-n
returns-then-places-n c =
    let z : c.loop-k.k ≡ length c.args.table.now / 10 = omega arith in
    past-whole _ _ _ _ refl (omega (arith, c.places.ensures, c.if-places-n.true)) (rw z at c.loop-k.invariant)

pub returns : goal.returns
returns c = checked-all _ _ _ _ c.loop-k.invariant (omega (arith, c.places.ensures, c.if-places-n.false))
