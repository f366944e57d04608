-- The octets of an order log's entry: those that are set aside have one.
-- By cases on the reason.
use Prim.Native.Nat.{ℕ}
use mathlib.Core.Path.{◌≡◌, refl, ap}
use mathlib.Core.List.{[], ◌∷◌}
use lib.ListN.{length, get_or}
use Rattle.definitions.specs.Logs.{Reason, by_form, again, late, ignored, order_entry}
use Rattle.order.specs.Order.{reason_as, placed_as}
use Rattle.order.specs.declared.Placed.{Placed}

pub one-octet : (r : Reason) → order_entry (ignored r) ≡ get_or (order_entry (ignored r)) 0 0 ∷ []
unfolding order_entry
one-octet by_form = refl
one-octet again = refl
one-octet late = refl

pub one-length : (r : Reason) → length (order_entry (ignored r)) ≡ 1
one-length r = ap length (one-octet r)

-- every entry but an accepted one has one octet
pub short-length : (p : Placed) → ((i : ℕ) → p ≡ Placed.Known i → ⊥) → length (order_entry (placed_as p)) ≡ 1
unfolding order_entry
short-length (Placed.Known i) n = absurd (n i refl)
short-length Placed.Unknown n = refl
short-length (Placed.Ignored r) n = one-length (reason_as r)
