-- `survey` looks at a place a turn: the invariant says that all before are well formed, the first that does not fit, and which are added.
use Rattle.seen.specs.Seen.{set_of}
use Rattle.measured_writing.specs.Added.{filled_of}
use Rattle.measured_writing.proofs.Surveying.{Looking}
use Rattle.measured_writing.proofs.sizes.survey.Given as goal

abbrev pub invariant-loop-k : goal.invariant-loop-k
invariant-loop-k l = Looking (filled_of l.table l.rows l.received l.set) (set_of l.seen) l.k l.unfit l.t
