-- `put_kept` puts the element behind the count at the front of what is left of the log.
-- Without a count there no element is left, and the pen goes to the end of the log.
use native.Mathlib.Omega.{arith}
use mathlib.Core.Path.{refl, sym, ◌∙◌}
use lib.ListN.{length, drop}
use Rattle.definitions.specs.Logs.{count_at}
use Rattle.definitions.proofs.Logs.{entry_of}
use Rattle.definitions.proofs.Lists.{to_end}
use Rattle.definitions.proofs.LogSteps.{rest_of}
use Rattle.kept.proofs.Counts.{count-not}
use Rattle.rows.proofs.Steps.{none-where}
use Rattle.walking.specs.Walks.{next_of}
use Rattle.walking.proofs.Laying.{lays-none}
use Rattle.walking.proofs.Elements.{elements-none, elements-over}
use Rattle.walking.proofs.put_kept.Goals as goal

pub returns-in_default : goal.returns-in_default
unfolding next_of rest_of
returns-in_default c =
    let a = c.args in
    let s = drop a.pen.kept a.kept.now in
    let e = elements-none a.kept.now a.pen.kept (count-not (entry_of s (count_at s)) (sym (none-where c.entry_at.result c.in_default.not-Some) ∙ rw to_end at c.entry_at.ensures)) in
    record { lays = rw e lays-none; rest = rw e (elements-over a.kept.now (length a.kept.now) (omega arith)); within = omega arith; further = λ h. h; place = refl }
