-- `decode_mandatory_ies_by` reads by the mandatory rows that the number names.
-- They pass their check; another number has no table.
use mathlib.Core.Path.{◌≡◌, sym, ap}
use mathlib.Core.Option.{some, none}
use Rattle.std.specs.Prelude.{Some, None}
use Rattle.definitions.specs.Tables.{mandatory_table_of}
use Rattle.real.proofs.Numbers.{mandatory-named, mandatory-unnamed, mandatory-passes}
use Rattle.mandatory.proofs.Checks.{by_number, by-none}
use Rattle.mandatory.proofs.by.decode_mandatory_ies_by.Goals as goal

pub decode_checked-requires : goal.decode_checked-requires
decode_checked-requires c = mandatory-passes c.args.number _ c.in-Some.ensures

pub returns-in-Some : goal.returns-in-Some
returns-in-Some c = let a = c.args in by_number a.number a.lenient a.part.now a.rows.now (mandatory-named a.number _ c.in-Some.ensures) c.decode_checked.ensures

pub returns-in-None : goal.returns-in-None
returns-in-None c = let a = c.args in rw c.unread.ensures (by-none a.number a.lenient a.part.now a.rows.now (mandatory-unnamed a.number c.in-None.ensures))
