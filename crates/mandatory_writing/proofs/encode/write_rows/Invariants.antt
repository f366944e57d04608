-- `write_rows` lends the rest of the output for a row a turn.
-- The invariant is the law of the rows before.
use Rattle.definitions.specs.Mandatory.{mandatory_rows_of}
use Rattle.values.specs.Rows.{sources_of}
use Rattle.mandatory_writing.proofs.Laying.{Laying}
use Rattle.mandatory_writing.proofs.encode.write_rows.Given as goal

abbrev pub invariant-loop-k : goal.invariant-loop-k
invariant-loop-k l = Laying (mandatory_rows_of l.table) (sources_of l.received l.set) l.rows l.initial.output l.k l.at l.low l.output
