-- `pass_left` copies an element a turn: what is left of the kept elements leads to all of them.
-- The measure is what is left of the log.
use native.Mathlib.Omega.{arith}
use mathlib.Core.Path.{ap, ◌∙◌}
use lib.ListN.{drop}
use Rattle.definitions.specs.Logs.{kept_list}
use Rattle.one_pass.specs.Passes.{concat_by}
use Rattle.placing.proofs.Pieces.{put-not, going-begun, going-as, going_on, going_end}
use Rattle.one_pass.proofs.Turns.{concat-next, concat-over, kept-not}
use Rattle.one_pass.proofs.pass_left.Goals as goal

pub loop-p-init : goal.loop-p-init
loop-p-init c = (c.requires.1, going-begun c.requires.0)

pub pass_kept-requires : goal.pass_kept-requires
pass_kept-requires c = (c.loop-p-test.true, c.loop-p.invariant.1.inside)

pub loop-p-smaller : goal.loop-p-smaller
loop-p-smaller c = let k = rw c.in_ok-p.was at c.pass_kept.ensures in omega (arith, k.further, k.inside)

pub loop-p-preserved : goal.loop-p-preserved
loop-p-preserved c =
    let k = rw c.in_ok-p.was at c.pass_kept.ensures in
    let o = kept_list (drop c.in_ok-p.p.kept c.args.kept.now) in
    (k.inside, going_on (concat_by o) (going-as (ap concat_by k.rest ∙ concat-next k.element o) c.loop-p.invariant.1) k.holds)

pub returns-in_err-p : goal.returns-in_err-p
returns-in_err-p c = rw c.from_residual.ensures (c.loop-p.invariant.1.leads _ _ (put-not (kept-not (rw c.in_err-p.was at c.pass_kept.ensures))))

pub shape_of-out : goal.shape_of-out
shape_of-out c = c.loop-p.invariant.1.long

pub returns : goal.returns
returns c = going_end (going-as (concat-over c.args.kept.now c.loop-p.p.kept c.loop-p-test.false) c.loop-p.invariant.1)
