-- The check of both logs, by what they list.
use Rattle.std.specs.Prelude.{ℕ, ◌≡◌, List, length, Option as Answered, Some, None, Result, Ok, Err}
use Rattle.std.proofs.Math.Option.{Option, none, some}
use Rattle.definitions.specs.Basic.{concat}
use Rattle.definitions.specs.Logs.{Placed, kept_list, order_list}
use Rattle.logs.specs.declared.MalformedLog.{MalformedLog}

unfoldable pub kept_octets : Option (List (List ℕ)) → Answered ℕ
kept_octets none = None
kept_octets (some es) = Some (length (concat es))

-- the first log that is malformed; else the octets of all kept elements
unfoldable pub checked_logs : Option (List Placed) → Option (List (List ℕ)) → Result ℕ MalformedLog
checked_logs none kept = Err MalformedLog.Order
checked_logs (some ps) none = Err MalformedLog.Kept
checked_logs (some ps) (some es) = Ok (length (concat es))

-- what each answer says

-- two logs that are well formed
pub record Formed (order kept : List ℕ) (octets : ℕ) : Type 0 where
  pub ps : List Placed
  pub es : List (List ℕ)
  pub order_is : order_list order ≡ some ps
  pub kept-is : kept_list kept ≡ some es
  pub octets-are : octets ≡ length (concat es)

abbrev pub Checked : List ℕ → List ℕ → Result ℕ MalformedLog → Type 0
Checked order kept (Ok n) = Formed order kept n
Checked order kept (Err MalformedLog.Order) = order_list order ≡ none
Checked order kept (Err MalformedLog.Kept) = ((ps : List Placed) × (order_list order ≡ some ps)) × (kept_list kept ≡ none)
