-- `check_mandatory_table` takes a row a turn: what is left to check from here on gives what the whole table does.
-- The code of the row before says whether a high half has to come.
use native.Mathlib.Omega.{arith}
use Prim.Native.Nat.{ℕ}
use mathlib.Core.Path.{sym, ap, ◌∙◌}
use borrow.Author.Tests.{not-true, not-false}
use lib.Dec.{eqb}
use Rattle.checks.proofs.Steps.{pairing, paired-one, too-many-mandatory, bad-mandatory, paired-all}
use Rattle.checks.proofs.check_mandatory_table.Goals as goal
use Rattle.checks.proofs.check_mandatory_table.Goals.{then-k-ge-MOST_MANDATORY-via-then-k-ge-MOST_MANDATORY, then-k-ge-MOST_MANDATORY-via-else-k-ge-MOST_MANDATORY+then-not-plain_passes}

pub loop-k-init : goal.loop-k-init
loop-k-init c = pairing _

pub returns-then-k-ge-MOST_MANDATORY : goal.returns-then-k-ge-MOST_MANDATORY
returns-then-k-ge-MOST_MANDATORY c =
    elim c.then-k-ge-MOST_MANDATORY.branch [
      | then-k-ge-MOST_MANDATORY-via-then-k-ge-MOST_MANDATORY w ↦ too-many-mandatory _ _ _ c.loop-k.invariant (omega arith) w.if-k-ge-MOST_MANDATORY.true
      | then-k-ge-MOST_MANDATORY-via-else-k-ge-MOST_MANDATORY+then-not-plain_passes w ↦ bad-mandatory _ _ _ c.loop-k.invariant (omega arith) (omega arith) (sym w.plain_passes.ensures ∙ w.if-not-plain_passes.true)
    ]

pub loop-k-preserved : goal.loop-k-preserved
loop-k-preserved c = paired-one _ _ _ c.loop-k.invariant (omega arith) (omega arith) (sym c.plain_passes.ensures ∙ c.if-not-plain_passes.false) (ap (λ (n : ℕ). eqb n 0) c.mandatory_code_at-after.ensures)

pub returns : goal.returns
returns c = paired-all _ _ _ c.loop-k.invariant (omega arith)
