-- `put_check` puts the text of the answer.
-- Each arm names it; that of an offender joins two lines.
use native.Mathlib.Omega.{arith}
use mathlib.Core.Path.{ap, sym, ◌∙◌}
use Rattle.std.specs.Prelude.{Err}
use Rattle.checking.specs.Checks.{part_check_as}
use Rattle.definitions.specs.Listing.{ascii}
use Rattle.wording.specs.Puts.{said}
use Rattle.wording.proofs.Puts.{joined, at-text, put-none}
use Rattle.wording.proofs.Lines.{number_short}
use Rattle.wording.proofs.Said.{number-said, cut-said}
use Rattle.verdicts.specs.Verdicts.{check_said}
use Rattle.verdicts.proofs.put_check.Goals as goal

pub put_offender-requires : goal.put_offender-requires
unfolding said
put_offender-requires c =
    let n = number-said (omega (arith, c.say-next.ensures.used)) _ c.say_number-used.ensures in
    (omega (arith, c.say-next.ensures.used, n.used, number_short c.in-Err-Offends.start), ap part_check_as (sym (c.in-Err-Offends.is ∙ ap Err (rw c.in-Err-Offends.is at c.in-Err-Offends.field-0-is))) ∙ c.requires)

pub returns-in-Ok : goal.returns-in-Ok
unfolding ascii said
returns-in-Ok c = at-text (ap (check_said c.args.number c.args.octets.now) (sym c.in-Ok.is)) c.say.ensures

pub returns-in-Err-Offends : goal.returns-in-Err-Offends
unfolding ascii said
returns-in-Err-Offends c =
    let n = number-said (omega (arith, c.say-next.ensures.used)) _ c.say_number-used.ensures in
    at-text (ap (check_said c.args.number c.args.octets.now) (sym (c.in-Err-Offends.is ∙ ap Err (rw c.in-Err-Offends.is at c.in-Err-Offends.field-0-is)))) (joined (joined c.say-next.ensures n) c.put_offender.ensures)

pub returns-in-Err-CutShort : goal.returns-in-Err-CutShort
unfolding ascii
returns-in-Err-CutShort c = at-text (ap (check_said c.args.number c.args.octets.now) (sym (c.in-Err-CutShort.is ∙ ap Err (rw c.in-Err-CutShort.is at c.in-Err-CutShort.field-0-is)))) (cut-said (omega arith) _ _ _ _ c.say_cut.ensures)

pub returns-in-Err-TooLong : goal.returns-in-Err-TooLong
unfolding ascii said
returns-in-Err-TooLong c = at-text (ap (check_said c.args.number c.args.octets.now) (sym (c.in-Err-TooLong.is ∙ ap Err (rw c.in-Err-TooLong.is at c.in-Err-TooLong.field-0-is)))) c.say-in-Err-TooLong.ensures

pub returns-in-Err-BadTable : goal.returns-in-Err-BadTable
unfolding ascii
returns-in-Err-BadTable c = at-text (ap (check_said c.args.number c.args.octets.now) (sym (c.in-Err-BadTable.is ∙ ap Err (rw c.in-Err-BadTable.is at c.in-Err-BadTable.field-0-is)))) (put-none c.args.out.now 0)

pub returns-in-Err-NoTable : goal.returns-in-Err-NoTable
unfolding ascii
returns-in-Err-NoTable c = at-text (ap (check_said c.args.number c.args.octets.now) (sym (c.in-Err-NoTable.is ∙ ap Err (rw c.in-Err-NoTable.is at c.in-Err-NoTable.field-0-is)))) (put-none c.args.out.now 0)
