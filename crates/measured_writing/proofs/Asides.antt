-- An entry of no known element by its octet: an unknown element, or one that was set aside; it is one octet.
-- By the cases of the octet.
use Prim.Native.Nat.{ℕ, zero, suc}
use mathlib.Core.Path.{◌≡◌, refl}
use lib.ListN.{length}
use Rattle.definitions.specs.Logs.{Placed, not_known, ignored, Reason, by_form, again, late, order_entry}
use Rattle.definitions.proofs.Orders.{aside_by}
use Rattle.order.proofs.Entries.{one-length}

pub aside-cases : (P : Placed → Type 0) → P not_known → ((r : Reason) → P (ignored r)) → (x : ℕ) → P (aside_by x)
unfolding aside_by
aside-cases P u i zero = u
aside-cases P u i (suc zero) = u
aside-cases P u i (suc (suc zero)) = i by_form
aside-cases P u i (suc (suc (suc zero))) = i again
aside-cases P u i (suc (suc (suc (suc n)))) = i late

pub aside-octet : (x : ℕ) → length (order_entry (aside_by x)) ≡ 1
unfolding order_entry
aside-octet = aside-cases (λ p. length (order_entry p) ≡ 1) refl one-length
