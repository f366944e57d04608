-- `put_word` puts the word of how an element came.
-- Each arm names it.
use mathlib.Core.Path.{ap, sym}
use Rattle.definitions.specs.Listing.{ascii, word}
use Rattle.wording.specs.Lines.{word_of}
use Rattle.wording.proofs.Puts.{at-text}
use Rattle.wording.proofs.put.put_word.Goals as goal

pub returns-in-Known : goal.returns-in-Known
unfolding word ascii
returns-in-Known c = at-text (ap word_of (sym c.in-Known.is)) c.put.ensures

pub returns-in-Unknown : goal.returns-in-Unknown
unfolding word ascii
returns-in-Unknown c = at-text (ap word_of (sym c.in-Unknown.is)) c.put-in-Unknown.ensures

pub returns-in-Ignored : goal.returns-in-Ignored
unfolding word ascii
returns-in-Ignored c = at-text (ap word_of (sym c.in-Ignored.is)) c.put_reason.ensures
