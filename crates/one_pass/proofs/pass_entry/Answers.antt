-- `pass_entry` goes by the kind of the entry.
-- A known one takes no kept element, any other the next.
use Prim.Native.Nat.{ℕ}
use mathlib.Core.Path.{◌≡◌, refl}
use Rattle.order.specs.Order.{placed_as}
use Rattle.order.specs.declared.Placed.{Placed}
use Rattle.seen.specs.Seen.{set_of}
use Rattle.placing.specs.Pieces.{lent_of}
use Rattle.one_pass.proofs.Turns.{Aside, known_by, aside-turn}
use Rattle.one_pass.proofs.pass_entry.Goals as goal

-- an entry that is not the first kind
aside-of : (e : Placed) → ((x : ℕ) → e ≡ Placed.Known x → ⊥) → Aside (placed_as e)
aside-of (Placed.Known iei) h = absurd (h iei refl)
aside-of Placed.Unknown h = tt
aside-of (Placed.Ignored r) h = tt

pub returns-in-Known : goal.returns-in-Known
returns-in-Known c = let a = c.args in rw c.in-Known.is (known_by (lent_of a.table.now a.rows.now a.received.now a.set.now) a.index.now (set_of a.names) c.in-Known.iei a.pen a.out.now a.kept.now c.pass_known.new.out c.requires.1 c.pass_known.result c.pass_known.ensures)

pub returns-in_default : goal.returns-in_default
returns-in_default c = let a = c.args in aside-turn (lent_of a.table.now a.rows.now a.received.now a.set.now) a.index.now (set_of a.names) a.kept.now (placed_as a.entry) (aside-of a.entry c.in_default.not-Known) a.pen a.out.now c.pass_next.new.out c.requires.0 c.requires.1 c.pass_next.result c.pass_next.ensures
