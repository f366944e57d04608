-- `walk_kept` takes a step a turn: the invariant says that what is told from here on is what is told of the whole log.
-- The measure is what is left of the log; each entry takes an octet or more.
use native.Mathlib.Omega.{arith}
use mathlib.Core.Path.{sym, ◌∙◌}
use Rattle.definitions.proofs.LogWalks.{kept_log, begun, ended}
use Rattle.kept.proofs.Walks.{stepped-on, stopped-at}
use Rattle.kept.proofs.walk_kept.Goals as goal

pub loop-w-init : goal.loop-w-init
loop-w-init c = begun kept_log _ _

pub loop-w-smaller : goal.loop-w-smaller
loop-w-smaller c = let k = stepped-on _ _ c.loop-w.w c.loop-w.invariant (omega arith) _ (sym c.in_ok-w.was ∙ c.kept_step.ensures) in omega arith

pub loop-w-preserved : goal.loop-w-preserved
loop-w-preserved c = (stepped-on _ _ c.loop-w.w c.loop-w.invariant (omega arith) _ (sym c.in_ok-w.was ∙ c.kept_step.ensures)).0

pub returns-in_err-w : goal.returns-in_err-w
returns-in_err-w c = rw c.from_residual.ensures (stopped-at _ _ c.loop-w.w c.loop-w.invariant (omega arith) (sym c.in_err-w.was ∙ c.kept_step.ensures))

pub returns : goal.returns
returns c = ended kept_log _ _ c.loop-w.invariant (omega arith)
