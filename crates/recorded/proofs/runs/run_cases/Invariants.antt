-- Where the cases that are left end, and what they count, is what all of them do.
use Rattle.std.proofs.Common.{List, ℕ, ◌-◌}
use Rattle.recorded.specs.declared.Position.{Position}
use Rattle.recorded.specs.Runs.{RunsTo}
use Rattle.recorded.proofs.runs.run_cases.Given as goal

abbrev pub invariant-loop-k : goal.invariant-loop-k
invariant-loop-k g l =
    (end : Position) (after : List ℕ)
    → RunsTo g.C.RunCase.gives (l.cases - l.k) l.at l.counts end after
    → RunsTo g.C.RunCase.gives l.cases l.from l.fn.counts end after
