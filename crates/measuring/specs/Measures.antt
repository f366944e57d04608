-- What reading needs of the lent logs.
use Rattle.std.specs.Prelude.{length, Result, Ok, Err}
use Rattle.definitions.specs.Elements.{Parted, elements, cut_short}
use Rattle.definitions.specs.Logs.{kept_of, entries_of}
use Rattle.elements.specs.Steps.{cut_of}
use Rattle.elements.specs.declared.element.Cut.{Cut}
use Rattle.elements.specs.declared.walk.Tally.{Tally}

-- what a part needs: the octets of its kept log, and of an order log with an entry for each element
abbrev pub measured : Parted → Result Tally Cut
measured (elements es) = Ok (record { kept = length (kept_of es); order = length (entries_of es) })
measured (cut_short a x n m) = Err (cut_of a x n m)
