-- `past_like` passes an entry a turn, as `kept_len` does, whose length is known before its count is read.
-- The measure is what is left of the log.
use native.Mathlib.Omega.{arith}
use Rattle.logs.proofs.Formed.{keeping-like}
use Rattle.logs.proofs.past_like.Goals as goal

pub loop-along-init : goal.loop-along-init
loop-along-init c = (c.requires, omega arith)

pub overflow_sub-kept : goal.overflow_sub-kept
overflow_sub-kept c = c.loop-along.invariant.0.left.inside

pub loop-along-preserved : goal.loop-along-preserved
loop-along-preserved c =
    (keeping-like _ _ _ c.loop-along.invariant.0 c.args.n (omega arith) (omega arith) c.loop-along-test.true c.if-kept-along.true, omega (arith, c.loop-along.invariant.1))

pub returns-else-kept-along : goal.returns-else-kept-along
returns-else-kept-along c = c.loop-along.invariant

pub returns-after-loop-along : goal.returns-after-loop-along
returns-after-loop-along c = c.loop-along.invariant
