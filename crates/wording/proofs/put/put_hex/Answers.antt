-- `put_hex` puts the two digits of an octet.
-- Each is the definition's.
use Prim.Native.Nat.{ℕ}
use mathlib.Core.Path.{ap₂}
use mathlib.Core.List.{[], ◌∷◌}
use Rattle.definitions.specs.Listing.{hex}
use Rattle.wording.proofs.Puts.{at-text}
use Rattle.wording.proofs.put.put_hex.Goals as goal

pub returns : goal.returns
unfolding hex
returns c = at-text (ap₂ (λ (a b : ℕ). a ∷ b ∷ []) c.hex_digit.ensures c.hex_digit-2.ensures) c.put.ensures
