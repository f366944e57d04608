-- `put_fault` puts the words of the fault.
-- Each arm names it.
use mathlib.Core.Path.{ap, sym}
use mathlib.Core.List.{◌++◌}
use Rattle.definitions.specs.Elements.{malformed}
use Rattle.why.specs.declared.Fault.{Fault}
use Rattle.grounds.specs.Grounds.{fault_said}
use Rattle.definitions.specs.Listing.{ascii, word, space, newline}
use Rattle.wording.specs.Puts.{said}
use Rattle.wording.proofs.Puts.{at-text}
use Rattle.grounds.proofs.put_fault.Goals as goal

pub returns-in-CutShort : goal.returns-in-CutShort
unfolding word ascii said
returns-in-CutShort c = at-text (ap (λ (f : Fault). (word malformed ++ (space ++ fault_said f)) ++ newline) (sym c.in-CutShort.is)) c.say.ensures

pub returns-in-UnderLeast : goal.returns-in-UnderLeast
unfolding word ascii said
returns-in-UnderLeast c = at-text (ap (λ (f : Fault). (word malformed ++ (space ++ fault_said f)) ++ newline) (sym c.in-UnderLeast.is)) c.say-in-UnderLeast.ensures

pub returns-in-KindBarred : goal.returns-in-KindBarred
unfolding word ascii said
returns-in-KindBarred c = at-text (ap (λ (f : Fault). (word malformed ++ (space ++ fault_said f)) ++ newline) (sym c.in-KindBarred.is)) c.say-in-KindBarred.ensures
