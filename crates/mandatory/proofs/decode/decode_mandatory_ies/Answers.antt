-- `decode_mandatory_ies` checks the table first.
-- The rest is `decode_checked`.
use mathlib.Core.Path.{sym}
use Rattle.mandatory.proofs.Checks.{read-bad}
use Rattle.mandatory.proofs.decode.decode_mandatory_ies.Goals as goal

pub returns-in-Err : goal.returns-in-Err
returns-in-Err c = rw c.unread.ensures (read-bad c.args.table.now c.args.lenient c.args.part.now c.args.rows.now c.in-Err.bad.0 (sym c.in-Err.ensures))
