-- `fault_of` is the fault of a complete value: the least length, then the value rule.
-- The numbers that it is judged by are the row's.
use Prim.Native.Nat.{ℕ}
use mathlib.Core.Path.{◌≡◌, refl, ◌∙◌}
use mathlib.Core.Bool.{Bool, true, false, not}
use mathlib.Core.Option.{Option, none, some}
use Rattle.definitions.specs.Basic.{pick}
use Rattle.definitions.specs.Mandatory.{is_half, fault_of}
use Rattle.mandatory_ie.proofs.fault_of.Goals as goal

-- the value rule, turned round
turned : (b : Bool) → ◌≡◌ {A = Option ℕ} (pick (not b) (some 9) none) (pick b none (some 9))
turned true = refl
turned false = refl

pub returns : goal.returns
unfolding fault_of is_half
returns c =
    let kinds = c.mandatory_kinds_at-kinds.ensures in
    let code = c.mandatory_code_at-half.ensures in
    let least = c.mandatory_least_at-least.ensures in
    c.first_fault.ensures ∙ rw (turned c.receivable.result, c.receivable.ensures, kinds, code, least)
