-- The answers of the order log by the definitions, and what a walk over it holds.
use Rattle.std.specs.Prelude.{ℕ, ◌+◌, ◌≡◌, List, [], ◌∷◌, length, eqb, Option as Answered, Some, None, Result, Ok, Err}
use Rattle.std.proofs.Math.Option.{Option, none, some}
use Rattle.definitions.specs.Basic.{pick, Answer, answer}
use Rattle.definitions.specs.Logs.{Placed as DefPlaced, known_iei, not_known, ignored, Reason, by_form, again, late, order_entry}
use Rattle.definitions.proofs.LogWalks.{order_log, told}
use Rattle.order.specs.declared.IgnoredIeReason.{IgnoredIeReason}
use Rattle.order.specs.declared.Placed.{Placed}
use Rattle.kept.specs.declared.LogError.{LogError}
use Rattle.order.specs.declared.OrderWalk.{OrderWalk}

abbrev pub reason_as : IgnoredIeReason → Reason
reason_as IgnoredIeReason.Malformed = by_form
reason_as IgnoredIeReason.Repeated = again
reason_as IgnoredIeReason.OutOfSequence = late

abbrev pub placed_as : Placed → DefPlaced
placed_as (Placed.Known iei) = known_iei iei
placed_as Placed.Unknown = not_known
placed_as (Placed.Ignored reason) = ignored (reason_as reason)

-- ---- the answers' numbers and values

abbrev pub entry_as : Result (Answered Placed) LogError → Answer
entry_as (Ok (Some p)) = answer 0 (order_entry (placed_as p))
entry_as (Ok None) = answer 0 []
entry_as (Err LogError.TooLong) = answer 3 []
entry_as (Err LogError.Malformed) = answer 11 (1 ∷ [])

-- ---- a walk

-- the entry at the front
abbrev pub front_as : Answered Placed → Option DefPlaced
front_as (Some p) = some (placed_as p)
front_as None = none

-- what a walk has found of the wanted entry: its octets, or nothing yet
abbrev pub wanted_as : Answered Placed → List ℕ
wanted_as (Some p) = order_entry (placed_as p)
wanted_as None = []

-- what a finished walk tells of the wanted entry
abbrev pub told_by : Answered OrderWalk → Option (List ℕ)
told_by (Some w) = some (wanted_as w.wanted)
told_by None = none

-- the same from where a walk is, by the entries that are left
abbrev pub tell : OrderWalk → ℕ → Option (List DefPlaced) → Option (List ℕ)
tell w want = told order_log want w.at w.count (wanted_as w.wanted)

abbrev pub start_walk : OrderWalk
start_walk = record { at = 0; count = 0; wanted = None }

-- w is a walk that is past an entry, which it remembers if it is the one wanted
pub record Past (w : OrderWalk) (want : ℕ) (p : DefPlaced) (v : OrderWalk) : Type 0 where
  pub at : v.at ≡ w.at + length (order_entry p)
  pub count : v.count ≡ w.count + 1
  pub wanted : wanted_as v.wanted ≡ pick (eqb w.count want) (order_entry p) (wanted_as w.wanted)

-- a step of a walk by the entry at the front
abbrev pub Stepped : OrderWalk → ℕ → Option DefPlaced → Answered OrderWalk → Type 0
Stepped w want none (Some v) = ⊥
Stepped w want none None = Unit
Stepped w want (some p) (Some v) = Past w want p v
Stepped w want (some p) None = ⊥
