-- A kept log measured entry by entry: where a walk is, and what its octets so far are to those of the whole log.
use Rattle.std.specs.Prelude.{ℕ, ◌+◌, ◌≤◌, List, length, Option as Answered, Some, None}
use Rattle.std.proofs.Math.Option.{Option, none, some}
use Rattle.definitions.specs.Basic.{concat}
use Rattle.definitions.specs.Logs.{kept_list}
use Rattle.definitions.proofs.LogWalks.{Left}
use Rattle.logs.specs.Checks.{kept_octets}

-- the octets so far with those of what is left
unfoldable pub with : ℕ → Option (List (List ℕ)) → Answered ℕ
with n none = None
with n (some es) = Some (n + length (concat es))

-- at a position, with so many octets before it: with those left they are the octets of the whole
pub record Keeping (kept : List ℕ) (at octets : ℕ) : Type 0 where
  pub few : octets ≤ at
  pub left : Left kept_list kept (kept_octets (kept_list kept)) at (with octets)
