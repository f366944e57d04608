-- `entry_len` is the length of an entry's octets.
-- Each arm names the entry's case.
use mathlib.Core.Path.{ap, sym}
use mathlib.Core.Logic.{inl, inr}
use lib.ListN.{length}
use Rattle.definitions.specs.Logs.{order_entry}
use Rattle.order.specs.Order.{placed_as}
use Rattle.order.specs.declared.Placed.{Placed}
use Rattle.order.proofs.Entries.{short-length}
use Rattle.order.proofs.entry_len.Goals as goal

pub returns-in-Known : goal.returns-in-Known
unfolding order_entry
returns-in-Known c = ap (λ (p : Placed). length (order_entry (placed_as p))) (sym c.in-Known.is)

pub returns-in-Unknown : goal.returns-in-Unknown
returns-in-Unknown c = sym (short-length c.args.entry (λ i e. elim c.in-Unknown.is as (λ _. ⊥) [ inl p ↦ cc | inr q ↦ let r = q.1 in cc ]))
