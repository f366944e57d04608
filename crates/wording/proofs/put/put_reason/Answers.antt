-- `put_reason` puts the word of the reason.
-- Each arm names it.
use mathlib.Core.Path.{ap, sym}
use Rattle.definitions.specs.Listing.{ascii, word}
use Rattle.wording.specs.Lines.{reason_word}
use Rattle.wording.proofs.Puts.{at-text}
use Rattle.wording.proofs.put.put_reason.Goals as goal

pub returns-in-Malformed : goal.returns-in-Malformed
unfolding word ascii
returns-in-Malformed c = at-text (ap reason_word (sym c.in-Malformed.is)) c.put.ensures

pub returns-in-Repeated : goal.returns-in-Repeated
unfolding word ascii
returns-in-Repeated c = at-text (ap reason_word (sym c.in-Repeated.is)) c.put-in-Repeated.ensures

pub returns-in-OutOfSequence : goal.returns-in-OutOfSequence
unfolding word ascii
returns-in-OutOfSequence c = at-text (ap reason_word (sym c.in-OutOfSequence.is)) c.put-in-OutOfSequence.ensures
