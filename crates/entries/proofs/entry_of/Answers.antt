-- `entry_of` is the entry of a number.
-- Each arm names the number.
use Prim.Native.Nat.{ℕ}
use native.Mathlib.Omega.{arith}
use mathlib.Core.Path.{ap, sym}
use Rattle.entries.specs.Entries.{placed_by}
use Rattle.entries.proofs.NoEntry.{no-entry}
use Rattle.entries.proofs.entry_of.Goals as goal

pub returns-in-0 : goal.returns-in-0
returns-in-0 c = sym (ap (λ (e : ℕ). placed_by e c.args.iei) c.in-0.is)

pub returns-in-1 : goal.returns-in-1
returns-in-1 c = sym (ap (λ (e : ℕ). placed_by e c.args.iei) c.in-1.is)

pub returns-in-2 : goal.returns-in-2
returns-in-2 c = sym (ap (λ (e : ℕ). placed_by e c.args.iei) c.in-2.is)

pub returns-in-3 : goal.returns-in-3
returns-in-3 c = sym (ap (λ (e : ℕ). placed_by e c.args.iei) c.in-3.is)

pub returns-in-4 : goal.returns-in-4
returns-in-4 c = sym (ap (λ (e : ℕ). placed_by e c.args.iei) c.in-4.is)

pub returns-in_default : goal.returns-in_default
returns-in_default c = no-entry c.args.entry c.args.iei (omega arith)
