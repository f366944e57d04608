-- Pushing an entry of the order log that is handed over as a number and an IEI.
use Rattle.std.specs.Prelude.{ℕ, zero, suc, true, []}
use Rattle.std.proofs.Math.Option.{Option, none, some}
use Rattle.definitions.specs.Basic.{Used}
use Rattle.definitions.specs.Logs.{Placed, known_iei, not_known, ignored, by_form, again, late, Logged, asking, order_push}

-- 0 is an accepted element with its IEI; 1 to 4 are the entries of one octet, whatever the IEI; a number over 4 is no entry
abbrev pub placed_by : ℕ → ℕ → Option Placed
placed_by zero iei = some (known_iei iei)
placed_by (suc zero) iei = some not_known
placed_by (suc (suc zero)) iei = some (ignored by_form)
placed_by (suc (suc (suc zero))) iei = some (ignored again)
placed_by (suc (suc (suc (suc zero)))) iei = some (ignored late)
placed_by (suc (suc (suc (suc (suc n))))) iei = none

-- what is no entry is refused as 11 (1), as a log with it would be malformed, right after the check of the used count
unfoldable pub push_placed : Used → Option Placed → Logged
push_placed u none = record { said = asking u true 1 []; log = u.buffer }
push_placed u (some p) = order_push u p

abbrev pub order_push_by : Used → ℕ → ℕ → Logged
order_push_by u entry iei = push_placed u (placed_by entry iei)
