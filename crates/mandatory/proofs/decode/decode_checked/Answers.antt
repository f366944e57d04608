-- `decode_checked` takes document 01's checks in their order; what is judged decides whether anything is written.
-- Each way out cites the law of its check.
use native.Mathlib.Omega.{arith}
use Prim.Native.Nat.{ℕ, ◌≤◌}
use mathlib.Core.Path.{◌≡◌, refl, sym}
use mathlib.Core.Bool.{true, false, true≢false}
use Rattle.std.specs.Prelude.{Result, Ok, Err, is_ok}
use Rattle.mandatory.specs.Reads.{number_of}
use Rattle.mandatory.specs.declared.decode.MandatoryError.{MandatoryError}
use Rattle.definitions.specs.Mandatory.{mandatory_rows_of}
use Rattle.definitions.proofs.Mandatories.{few-mandatory}
use Rattle.mandatory.proofs.Checks.{read-long, read-room, read-refused, read_done}
use Rattle.mandatory.proofs.decode.decode_checked.Goals as goal

-- an answer's number, by whether it is one
done : (a : Result ℕ MandatoryError) → true ≡ is_ok a → number_of a ≡ 0
done (Ok n) e = refl
done (Err x) e = absurd (true≢false e)

refused : (a : Result ℕ MandatoryError) → false ≡ is_ok a → 1 ≤ number_of a
refused (Ok n) e = absurd (true≢false (sym e))
refused (Err MandatoryError.NoRoom) e = omega arith
refused (Err MandatoryError.TooLong) e = omega arith
refused (Err (MandatoryError.BadTable k)) e = omega arith
refused (Err MandatoryError.NoTable) e = omega arith
refused (Err (MandatoryError.Missing k)) e = omega arith
refused (Err (MandatoryError.Truncated k)) e = omega arith
refused (Err (MandatoryError.TooShort k)) e = omega arith
refused (Err (MandatoryError.Syntax k)) e = omega arith

pub returns-then-part-gt-MOST_OCTETS : goal.returns-then-part-gt-MOST_OCTETS
returns-then-part-gt-MOST_OCTETS c = rw c.unread.ensures (read-long c.args.table.now c.args.lenient c.args.part.now c.args.rows.now c.requires (omega arith))

pub overflow_mul-mandatory_rows : goal.overflow_mul-mandatory_rows
overflow_mul-mandatory_rows c = omega (arith, c.mandatory_rows.ensures, few-mandatory (mandatory_rows_of c.args.table.now) c.requires)

pub returns-then-rows-mandatory_rows : goal.returns-then-rows-mandatory_rows
returns-then-rows-mandatory_rows c = rw c.unread-then-rows-mandatory_rows.ensures (read-room c.args.table.now c.args.lenient c.args.part.now c.args.rows.now c.requires (omega arith) (omega (arith, c.mandatory_rows.ensures)))

pub judge-read-requires : goal.judge-read-requires
judge-read-requires c = few-mandatory (mandatory_rows_of c.args.table.now) c.requires

pub returns-then-is_ok : goal.returns-then-is_ok
returns-then-is_ok c = read_done c.args.table.now c.args.lenient c.args.part.now c.args.rows.now c.requires (omega arith) (omega (arith, c.mandatory_rows.ensures)) c.judge-read.result c.judge-read.ensures (done c.judge-read.result.answer c.if-is_ok.ensures.value) c.fill.ensures

pub returns-else-is_ok : goal.returns-else-is_ok
returns-else-is_ok c = read-refused c.args.table.now c.args.lenient c.args.part.now c.args.rows.now c.requires (omega arith) (omega (arith, c.mandatory_rows.ensures)) c.judge-read.result c.judge-read.ensures (refused c.judge-read.result.answer c.if-is_ok.ensures.value)
