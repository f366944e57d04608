-- `octets_needed` adds up a row a turn.
-- The invariant is the law of the rows before.
use Rattle.definitions.specs.Mandatory.{mandatory_rows_of}
use Rattle.values.specs.Rows.{sources_of}
use Rattle.mandatory_writing.proofs.Sizing.{Adding}
use Rattle.mandatory_writing.proofs.encode.octets_needed.Given as goal

abbrev pub invariant-loop-k : goal.invariant-loop-k
invariant-loop-k l = Adding (mandatory_rows_of l.table) (sources_of l.received l.set) l.rows l.k l.size
