-- `pass_left` copies an element a turn: what is left of the kept elements leads to all of them.
-- The measure is what is left of the log.
use Prim.Native.Nat.{◌-◌, ◌≤◌}
use lib.ListN.{length, drop}
use Rattle.definitions.specs.Logs.{kept_list}
use Rattle.one_pass.specs.Passes.{concat_by}
use Rattle.placing.proofs.Pieces.{Going}
use Rattle.one_pass.proofs.pass_left.Given as goal

abbrev pub invariant-loop-p : goal.invariant-loop-p
invariant-loop-p l = (l.p.kept ≤ length l.kept) × Going (concat_by (kept_list (drop l.initial.p.kept l.kept))) l.initial.p.at l.initial.out (concat_by (kept_list (drop l.p.kept l.kept))) l.p.at l.out

abbrev pub decreases-loop-p : goal.decreases-loop-p
decreases-loop-p l = length l.kept - l.p.kept
