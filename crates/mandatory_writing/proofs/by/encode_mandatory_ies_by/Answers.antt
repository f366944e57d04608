-- `encode_mandatory_ies_by` writes by the mandatory rows that the number names.
-- They pass their check; another number has no table.
use Rattle.kept.specs.Kept.{used_of}
use Rattle.real.proofs.Numbers.{mandatory-named, mandatory-unnamed, mandatory-passes}
use Rattle.mandatory_writing.proofs.Checks.{by_number, by-none}
use Rattle.mandatory_writing.proofs.by.encode_mandatory_ies_by.Goals as goal

pub returns-in_default : goal.returns-in_default
returns-in_default c = let a = c.args in by-none a.number a.rows.now a.received.now (used_of a.set.now a.set_used) a.output.now (mandatory-unnamed a.number c.in_default.ensures)

pub encode_checked-requires : goal.encode_checked-requires
encode_checked-requires c = mandatory-passes c.args.number _ c.in-Some.ensures

pub returns : goal.returns
returns c = let a = c.args in by_number a.number a.rows.now a.received.now (used_of a.set.now a.set_used) a.output.now (mandatory-named a.number _ c.in-Some.ensures) c.encode_checked.ensures
