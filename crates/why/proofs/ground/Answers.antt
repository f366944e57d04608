-- `ground` goes by how the element came; one that was set aside is judged by its own octets and its row.
-- Each arm names what it was.
use mathlib.Core.Path.{refl}
use Rattle.why.proofs.ground.Goals as goal

pub returns-in-Known-default : goal.returns-in-Known-default
returns-in-Known-default c = rw c.in-Known-default.is-0 refl
