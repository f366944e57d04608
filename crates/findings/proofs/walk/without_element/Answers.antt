-- `without_element` leaves the walk where it is.
-- Nothing is left to show.
use mathlib.Core.Path.{refl}
use Rattle.findings.proofs.walk.without_element.Goals as goal

pub returns : goal.returns
returns c = refl
