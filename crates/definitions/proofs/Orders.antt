-- An order log by its first entry, whatever count the recursion has, and that entry by its first octet.
-- Each value of the first octet is a case of the definition; the rest of the log is the log behind the entry.
use Prim.Native.Nat.{ℕ, zero, suc, ◌≤◌, ◌<◌}
use native.Mathlib.Omega.{arith}
use mathlib.Core.Path.{◌≡◌, refl, ap}
use mathlib.Core.List.{List, [], ◌∷◌}
use mathlib.Core.Option.{Option, none, some}
use lib.ListN.{length, get_or, drop}
use Rattle.definitions.specs.Logs.{Placed, known_iei, not_known, ignored, by_form, again, late, order_entry, put, order_list_f, order_list}
use Rattle.definitions.proofs.LogLaws.{order-counted}

-- the entry at the front; none where there is none, or it is malformed
unfoldable pub order_front : List ℕ → Option Placed
order_front [] = none
order_front (zero ∷ []) = none
order_front (zero ∷ i ∷ s) = some (known_iei i)
order_front (suc zero ∷ s) = some not_known
order_front (suc (suc zero) ∷ s) = some (ignored by_form)
order_front (suc (suc (suc zero)) ∷ s) = some (ignored again)
order_front (suc (suc (suc (suc zero))) ∷ s) = some (ignored late)
order_front (suc (suc (suc (suc (suc n)))) ∷ s) = none

-- what a log holds by its entry at the front
unfoldable pub order_by : List ℕ → Option Placed → Option (List Placed)
order_by s none = none
order_by s (some p) = put p (order_list (drop (length (order_entry p)) s))

rest : (f : ℕ) (p : Placed) (s : List ℕ) → length s ≤ f → put p (order_list_f f s) ≡ put p (order_list s)
unfolding order_list
rest f p s h = ap (put p) (order-counted f (length s) s h (omega arith))

pub order-nil : (s : List ℕ) → length s ≡ 0 → order_list s ≡ some []
unfolding order_list order_list_f
order-nil [] h = refl
order-nil (x ∷ s) h = absurd (omega arith)

pub order-front : (s : List ℕ) → 0 < length s → order_list s ≡ order_by s (order_front s)
unfolding order_list order_list_f order_front order_by order_entry
order-front [] h = absurd (omega arith)
order-front (zero ∷ []) h = refl
order-front (zero ∷ i ∷ s) h = rest (suc (length s)) (known_iei i) s (omega arith)
order-front (suc zero ∷ s) h = rest (length s) not_known s (omega arith)
order-front (suc (suc zero) ∷ s) h = rest (length s) (ignored by_form) s (omega arith)
order-front (suc (suc (suc zero)) ∷ s) h = rest (length s) (ignored again) s (omega arith)
order-front (suc (suc (suc (suc zero))) ∷ s) h = rest (length s) (ignored late) s (omega arith)
order-front (suc (suc (suc (suc (suc n)))) ∷ s) h = refl

-- the entry by the first octet, as code reads it
pub front-known : (s : List ℕ) → 2 ≤ length s → get_or s 0 0 ≡ 0 → order_front s ≡ some (known_iei (get_or s 1 0))
unfolding order_front
front-known [] h e = absurd (omega arith)
front-known (x ∷ []) h e = absurd (omega arith)
front-known (x ∷ i ∷ s) h e = rw e

pub front-alone : (s : List ℕ) → length s ≡ 1 → get_or s 0 0 ≡ 0 → order_front s ≡ none
unfolding order_front
front-alone [] h e = absurd (omega arith)
front-alone (x ∷ []) h e = rw e
front-alone (x ∷ i ∷ s) h e = absurd (omega arith)

pub front-empty : (s : List ℕ) → length s ≡ 0 → order_front s ≡ none
unfolding order_front
front-empty [] h = refl
front-empty (x ∷ s) h = absurd (omega arith)

-- the entry of an octet from 1 to 4
unfoldable pub aside_by : ℕ → Placed
aside_by zero = not_known
aside_by (suc zero) = not_known
aside_by (suc (suc zero)) = ignored by_form
aside_by (suc (suc (suc zero))) = ignored again
aside_by (suc (suc (suc (suc n)))) = ignored late

pub front-aside : (s : List ℕ) (x : ℕ) → 0 < length s → get_or s 0 0 ≡ x → 1 ≤ x → x ≤ 4 → order_front s ≡ some (aside_by x)
unfolding order_front aside_by
front-aside [] x h e l g = absurd (omega arith)
front-aside (y ∷ s) zero h e l g = absurd (omega arith)
front-aside (y ∷ s) (suc zero) h e l g = rw e
front-aside (y ∷ s) (suc (suc zero)) h e l g = rw e
front-aside (y ∷ s) (suc (suc (suc zero))) h e l g = rw e
front-aside (y ∷ s) (suc (suc (suc (suc zero)))) h e l g = rw e
front-aside (y ∷ s) (suc (suc (suc (suc (suc n))))) h e l g = absurd (omega arith)

pub front-over : (s : List ℕ) → 0 < length s → 4 < get_or s 0 0 → order_front s ≡ none
unfolding order_front
front-over [] h g = absurd (omega arith)
front-over (zero ∷ s) h g = absurd (omega arith)
front-over (suc zero ∷ s) h g = absurd (omega arith)
front-over (suc (suc zero) ∷ s) h g = absurd (omega arith)
front-over (suc (suc (suc zero)) ∷ s) h g = absurd (omega arith)
front-over (suc (suc (suc (suc zero))) ∷ s) h g = absurd (omega arith)
front-over (suc (suc (suc (suc (suc n)))) ∷ s) h g = refl

-- an entry that is found takes an octet or more, which the log has
abbrev pub Fits : List ℕ → Option Placed → Type 0
Fits s none = Unit
Fits s (some p) = (1 ≤ length (order_entry p)) × (length (order_entry p) ≤ length s) × (length (order_entry p) ≤ 2)

pub front_fits : (s : List ℕ) → Fits s (order_front s)
unfolding order_front order_entry
front_fits [] = tt
front_fits (zero ∷ []) = tt
front_fits (zero ∷ i ∷ s) = omega arith
front_fits (suc zero ∷ s) = omega arith
front_fits (suc (suc zero) ∷ s) = omega arith
front_fits (suc (suc (suc zero)) ∷ s) = omega arith
front_fits (suc (suc (suc (suc zero))) ∷ s) = omega arith
front_fits (suc (suc (suc (suc (suc n)))) ∷ s) = tt

pub aside-late : (x : ℕ) → 4 ≤ x → aside_by x ≡ ignored late
unfolding aside_by
aside-late zero h = absurd (omega arith)
aside-late (suc zero) h = absurd (omega arith)
aside-late (suc (suc zero)) h = absurd (omega arith)
aside-late (suc (suc (suc zero))) h = absurd (omega arith)
aside-late (suc (suc (suc (suc n)))) h = refl
