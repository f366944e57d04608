-- `kept_len` passes an entry a turn, and those of the same length behind it: the invariant says that the octets so far with those left are those of
-- the whole log. The measure is what is left of the log.
use native.Mathlib.Omega.{arith}
use mathlib.Core.Path.{sym, ◌∙◌}
use lib.ListN.{drop}
use Rattle.definitions.specs.Logs.{count_at}
use Rattle.definitions.proofs.Logs.{entry_of}
use Rattle.definitions.proofs.Lists.{to_end}
use Rattle.definitions.proofs.LogSteps.{KeptEntry, kept-split, kept-stop}
use Rattle.kept.proofs.Counts.{count-is, count-not}
use Rattle.logs.proofs.Formed.{keeping-begun, keeping_step, keeping-stopped, keeping-ended}
use Rattle.logs.proofs.kept_len.Goals as goal
use Rattle.logs.proofs.kept_len.Goals.{In_ok-value}

pub loop-along-init : goal.loop-along-init
loop-along-init c = keeping-begun _

-- the entry at the position
split : (c : In_ok-value) → KeptEntry c.args.kept.now c.loop-along.along.at (record { value = c.in_ok-value.field-0.value; took = c.in_ok-value.field-0.took })
split c = kept-split _ _ c.loop-along.invariant.left.inside (count-is _ (sym c.in_ok-value.was ∙ rw to_end at c.entry_at.ensures))

pub overflow_add-next : goal.overflow_add-next
overflow_add-next c = let k = (split (goal.at.overflow_add-next c).In_ok-value).within in omega arith

pub overflow_add-next-in-loop-along : goal.overflow_add-next-in-loop-along
overflow_add-next-in-loop-along c = let k = (split (goal.at.overflow_add-next-in-loop-along c).In_ok-value).within in omega arith

pub overflow_add-next-in-loop-along-2 : goal.overflow_add-next-in-loop-along-2
overflow_add-next-in-loop-along-2 c = let k = (split (goal.at.overflow_add-next-in-loop-along-2 c).In_ok-value).within in omega (arith, c.loop-along.invariant.few)

pub past_like-along-requires : goal.past_like-along-requires
past_like-along-requires c = keeping_step _ _ _ c.loop-along.invariant (split (goal.at.past_like-along-requires c).In_ok-value)

pub loop-along-smaller : goal.loop-along-smaller
loop-along-smaller c =
    let k = split (goal.at.loop-along-smaller c).In_ok-value in
    omega (arith, k.within, k.count, c.past_like-along.ensures.1, c.past_like-along.ensures.0.left.inside)

pub loop-along-preserved : goal.loop-along-preserved
loop-along-preserved c = c.past_like-along.ensures.0

pub returns-in_err-value : goal.returns-in_err-value
returns-in_err-value c =
    let s = drop c.loop-along.along.at c.args.kept.now in
    c.from_residual.ensures
    ∙ keeping-stopped _ _ _ c.loop-along.invariant (kept-stop _ _ c.loop-along-test.true (count-not (entry_of s (count_at s)) (sym c.in_err-value.was ∙ rw to_end at c.entry_at.ensures)))

pub returns : goal.returns
returns c = keeping-ended _ _ _ c.loop-along.invariant c.loop-along-test.false
