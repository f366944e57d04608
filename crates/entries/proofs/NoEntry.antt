-- An order entry that is handed over as a number: what is no entry is refused in its place.
-- By the number; the checks are the definition's, in their order.
use Prim.Native.Nat.{ℕ, zero, suc, ◌≤◌, ◌<◌}
use native.Mathlib.Omega.{arith}
use mathlib.Core.Path.{◌≡◌, refl, ap, sym}
use mathlib.Core.List.{[], ◌∷◌}
use mathlib.Core.Bool.{true}
use mathlib.Core.Option.{Option, none, some}
use lib.ListN.{length}
use Rattle.definitions.specs.Basic.{answer, Used, too_long, most_log}
use Rattle.definitions.specs.Logs.{Placed, order_push}
use Rattle.definitions.proofs.Logs.{not-long, asking-long, asking-bad}
use Rattle.entries.specs.Entries.{placed_by, push_placed}

pub no-entry : (e i : ℕ) → 4 < e → none ≡ placed_by e i
no-entry zero i h = absurd (omega arith)
no-entry (suc zero) i h = absurd (omega arith)
no-entry (suc (suc zero)) i h = absurd (omega arith)
no-entry (suc (suc (suc zero))) i h = absurd (omega arith)
no-entry (suc (suc (suc (suc zero)))) i h = absurd (omega arith)
no-entry (suc (suc (suc (suc (suc n))))) i h = refl

-- a push of what a number is, where it is an entry and where it is none
module _ (u : Used) {o : Option Placed} where
  pub entry-pushed : {p : Placed} → some p ≡ o → order_push u p ≡ push_placed u o
  unfolding push_placed
  entry-pushed e = ap (push_placed u) e

  module _ (e : none ≡ o) where
    pub none-used : too_long most_log u ≡ true → (answer 3 [] ≡ (push_placed u o).said) × (u.buffer ≡ (push_placed u o).log)
    unfolding push_placed
    none-used h = rw (sym e) (sym (asking-long u true 1 [] h), refl)

    pub none-bad : u.used ≤ length u.buffer → u.used ≤ most_log → (answer 11 (1 ∷ []) ≡ (push_placed u o).said) × (u.buffer ≡ (push_placed u o).log)
    unfolding push_placed
    none-bad h g = rw (sym e) (sym (asking-bad u true 1 [] (not-long most_log u h g) refl), refl)
