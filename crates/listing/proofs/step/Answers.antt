-- `step` is the public step by a table that passes its check, on a part within the limit.
-- Each arm names what the step answered.
use mathlib.Core.Path.{ap, sym, ◌∙◌}
use Rattle.std.specs.Prelude.{Err}
use Rattle.listing.proofs.Reading.{stepped}
use Rattle.listing.proofs.step.Goals as goal

pub returns-in-Ok : goal.returns-in-Ok
returns-in-Ok c = stepped c.args.table.now c.args.option c.args.octets.now c.args.state c.requires c.in-Ok.ensures

pub returns-in-Err-CutShort : goal.returns-in-Err-CutShort
returns-in-Err-CutShort c = stepped c.args.table.now c.args.option c.args.octets.now c.args.state c.requires (ap Err (sym c.in-Err-CutShort.field-0-is) ∙ c.in-Err-CutShort.ensures)

pub returns-in-Err-TooLong : goal.returns-in-Err-TooLong
returns-in-Err-TooLong c = stepped c.args.table.now c.args.option c.args.octets.now c.args.state c.requires (ap Err (sym c.in-Err-TooLong.field-0-is) ∙ c.in-Err-TooLong.ensures)

pub returns-in-Err-BadTable : goal.returns-in-Err-BadTable
returns-in-Err-BadTable c = stepped c.args.table.now c.args.option c.args.octets.now c.args.state c.requires (ap Err (sym c.in-Err-BadTable.field-0-is) ∙ c.in-Err-BadTable.ensures)
