-- `next_by_index` is the step within the limit.
-- By what the step answered.
use native.Mathlib.Omega.{arith}
use mathlib.Core.Path.{ap, sym, ◌∙◌}
use borrow.Author.Tests.{lt-ltb, le-ltb}
use lib.ListN.{length}
use Rattle.std.proofs.lemmas.Result.{err_from_is_err_and}
use Rattle.elements.specs.Nexts.{next_as, next_from}
use Rattle.elements.proofs.next.next_by_index.Goals as goal

pub returns-then-octets-gt-MOST_OCTETS : goal.returns-then-octets-gt-MOST_OCTETS
unfolding next_from
returns-then-octets-gt-MOST_OCTETS c = rw (lt-ltb 65535 (length c.args.octets.now) (omega arith))

pub returns-in_err-step : goal.returns-in_err-step
unfolding next_from
returns-in_err-step c =
    let p = err_from_is_err_and c.from_residual.result c.from_residual.ensures.1 in
    rw (p.1, p.2, le-ltb 65535 (length c.args.octets.now) (omega arith)) (ap next_as (sym c.in_err-step.was ∙ c.element_step.ensures.own_index c.requires))

pub returns : goal.returns
unfolding next_from
returns c = rw (le-ltb 65535 (length c.args.octets.now) (omega arith)) (ap next_as (sym c.in_ok-step.was ∙ c.element_step.ensures.own_index c.requires))
