-- `put_why` puts the line of the answer.
-- Each arm names it.
use native.Mathlib.Omega.{arith}
use mathlib.Core.Path.{ap, sym, ◌∙◌}
use Rattle.std.specs.Prelude.{Ok, Err}
use Rattle.definitions.specs.Listing.{ascii, word}
use Rattle.grounds.specs.Grounds.{said_of}
use Rattle.wording.specs.Puts.{said}
use Rattle.wording.proofs.Puts.{at-text, put-none}
use Rattle.wording.proofs.Said.{cut-said}
use Rattle.grounds.proofs.put_why.Goals as goal

pub returns-in-Ok-Accepted : goal.returns-in-Ok-Accepted
unfolding word ascii said
returns-in-Ok-Accepted c = at-text (ap said_of (sym (c.in-Ok-Accepted.is ∙ ap Ok (rw c.in-Ok-Accepted.is at c.in-Ok-Accepted.field-0-is)))) c.say.ensures

pub returns-in-Ok-Unknown : goal.returns-in-Ok-Unknown
unfolding word ascii said
returns-in-Ok-Unknown c = at-text (ap said_of (sym (c.in-Ok-Unknown.is ∙ ap Ok (rw c.in-Ok-Unknown.is at c.in-Ok-Unknown.field-0-is)))) c.say-in-Ok-Unknown.ensures

pub returns-in-Ok-Malformed : goal.returns-in-Ok-Malformed
unfolding word ascii said
returns-in-Ok-Malformed c = at-text (ap said_of (sym (c.in-Ok-Malformed.is ∙ ap Ok (rw c.in-Ok-Malformed.is at c.in-Ok-Malformed.field-0-is)))) c.put_fault.ensures

pub returns-in-Ok-Repeated : goal.returns-in-Ok-Repeated
unfolding word ascii said
returns-in-Ok-Repeated c = at-text (ap said_of (sym (c.in-Ok-Repeated.is ∙ ap Ok (rw c.in-Ok-Repeated.is at c.in-Ok-Repeated.field-0-is)))) c.put_start.ensures

pub returns-in-Ok-OutOfSequence : goal.returns-in-Ok-OutOfSequence
unfolding word ascii said
returns-in-Ok-OutOfSequence c = at-text (ap said_of (sym (c.in-Ok-OutOfSequence.is ∙ ap Ok (rw c.in-Ok-OutOfSequence.is at c.in-Ok-OutOfSequence.field-0-is)))) c.put_start-in-Ok-OutOfSequence.ensures

pub returns-in-Err-NoElement : goal.returns-in-Err-NoElement
unfolding word ascii said
returns-in-Err-NoElement c = at-text (ap said_of (sym (c.in-Err-NoElement.is ∙ ap Err (rw c.in-Err-NoElement.is at c.in-Err-NoElement.field-0-is)))) c.say-in-Err-NoElement.ensures

pub returns-in-Err-CutShort : goal.returns-in-Err-CutShort
unfolding word ascii
returns-in-Err-CutShort c = at-text (ap said_of (sym (c.in-Err-CutShort.is ∙ ap Err (rw c.in-Err-CutShort.is at c.in-Err-CutShort.field-0-is)))) (cut-said (omega arith) _ _ _ _ c.say_cut.ensures)

pub returns-in-Err-TooLong : goal.returns-in-Err-TooLong
unfolding word ascii said
returns-in-Err-TooLong c = at-text (ap said_of (sym (c.in-Err-TooLong.is ∙ ap Err (rw c.in-Err-TooLong.is at c.in-Err-TooLong.field-0-is)))) c.say-in-Err-TooLong.ensures

pub returns-in-Err-BadTable : goal.returns-in-Err-BadTable
unfolding word ascii
returns-in-Err-BadTable c = at-text (ap said_of (sym (c.in-Err-BadTable.is ∙ ap Err (rw c.in-Err-BadTable.is at c.in-Err-BadTable.field-0-is)))) (put-none c.args.out.now 0)

pub returns-in-Err-NoTable : goal.returns-in-Err-NoTable
unfolding word ascii
returns-in-Err-NoTable c = at-text (ap said_of (sym (c.in-Err-NoTable.is ∙ ap Err (rw c.in-Err-NoTable.is at c.in-Err-NoTable.field-0-is)))) (put-none c.args.out.now 0)
