-- `put_placed` stores the octets of an entry.
-- Each arm names the entry's case; one that is set aside has one octet.
use Prim.Native.Nat.{ℕ}
use mathlib.Core.Path.{ap, sym, ◌∙◌}
use mathlib.Core.List.{List, [], ◌∷◌}
use Rattle.definitions.specs.Logs.{order_entry}
use Rattle.kept.specs.Kept.{if_room}
use Rattle.order.specs.Order.{placed_as}
use Rattle.order.specs.declared.Placed.{Placed}
use Rattle.order.proofs.Entries.{one-octet}
use Rattle.order.proofs.put_placed.Goals as goal

pub returns-in-Known : goal.returns-in-Known
unfolding order_entry
returns-in-Known c = c.put_known.ensures ∙ ap (λ (p : Placed). if_room (order_entry (placed_as p)) c.args.out.now) (sym c.in-Known.is)

pub returns-in-Unknown : goal.returns-in-Unknown
unfolding order_entry
returns-in-Unknown c = c.put_octet.ensures ∙ ap (λ (p : Placed). if_room (order_entry (placed_as p)) c.args.out.now) (sym c.in-Unknown.is)

pub returns-in-Ignored : goal.returns-in-Ignored
returns-in-Ignored c =
    let d = c.args.out.now in
    c.put_octet-in-Ignored.ensures ∙ ap (λ (x : ℕ). if_room (x ∷ []) d) c.reason_octet.ensures
    ∙ ap (λ (s : List ℕ). if_room s d) (sym (one-octet _)) ∙ ap (λ (p : Placed). if_room (order_entry (placed_as p)) c.args.out.now) (sym c.in-Ignored.is)
