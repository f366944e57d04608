-- `with_entry` adds the element of a known entry with a place, and the place to the set, and judges the row of the place.
-- Each arm has the entry, or which it can be.
use Prim.Native.Nat.{ℕ, ◌<◌}
use native.Mathlib.Omega.{arith}
use mathlib.Core.Path.{◌≡◌, refl, ap, sym, ◌∙◌}
use Rattle.definitions.specs.Rows.{rows_of, place_of}
use Rattle.rows.specs.Answers.{place_as}
use Rattle.seen.specs.Seen.{set_of}
use Rattle.order.specs.Order.{placed_as}
use Rattle.order.specs.declared.Placed.{Placed}
use Rattle.agreement.specs.Agreed.{entry_apart}
use Rattle.definitions.specs.Writing.{Filled}
use Rattle.measured_writing.specs.Added.{filled_of}
use Rattle.measured_writing.specs.Sizes.{tally_of}
use Rattle.measured_writing.proofs.Tallying.{place_found, place-low, tallied-known, tallied-nowhere, Idle, idle-unknown, idle-ignored}
use Rattle.measured_writing.proofs.sizes.with_entry.Goals as goal

-- an entry of no known element changes nothing
aside : (m : Filled) (e : Placed) → ((x : ℕ) → e ≡ Placed.Known x → ⊥) → Idle m (placed_as e)
aside m (Placed.Known iei) h = absurd (h iei refl)
aside m Placed.Unknown h = idle-unknown m
aside m (Placed.Ignored r) h = idle-ignored m _

pub place_len-requires : goal.place_len-requires
place_len-requires c = (c.requires.0.passes, c.requires.0.received-short, c.requires.0.set-short)

pub overflow_add-result : goal.overflow_add-result
overflow_add-result c = omega (arith, c.place_len.ensures.1, c.requires.1)

pub returns-in-Some : goal.returns-in-Some
unfolding entry_apart
returns-in-Some c =
    let found : place_as c.place_of.result ≡ place_of (rows_of c.args.table.now) c.in-Known.iei = c.place_of.ensures ∙ place_found c.args.table.now c.args.index.now c.in-Known.iei c.requires.0.passes c.requires.0.indexed (omega arith) in
    let low : c.in-Some.k < 128 = let l = place-low (rows_of c.args.table.now) c.in-Known.iei c.in-Some.k c.requires.0.passes (sym (found) ∙ ap place_as c.in-Some.is) in omega arith in
    let a = c.args in
    let e = sym (found) ∙ ap place_as c.in-Some.is in
    rw c.in-Known.is (tallied-known (filled_of a.table.now a.rows.now a.received.now a.set.now) (tally_of a.t) c.in-Known.iei c.in-Some.k e (low) c.place_len.ensures.0 c.place_len.ensures.1 c.with.ensures, rw e c.apart_with.ensures)

pub returns-in-None : goal.returns-in-None
unfolding entry_apart
returns-in-None c =
    let found : place_as c.place_of.result ≡ place_of (rows_of c.args.table.now) c.in-Known.iei = c.place_of.ensures ∙ place_found c.args.table.now c.args.index.now c.in-Known.iei c.requires.0.passes c.requires.0.indexed (omega arith) in
    let a = c.args in
    let e = sym (found) ∙ ap place_as c.in-None.is in
    rw c.in-Known.is (tallied-nowhere (filled_of a.table.now a.rows.now a.received.now a.set.now) (tally_of a.t) c.in-Known.iei e, rw e)

pub returns-in_default : goal.returns-in_default
returns-in_default c = let a = c.args in let i = aside (filled_of a.table.now a.rows.now a.received.now a.set.now) a.entry c.in_default.not-Known in (i.tally (tally_of a.t), sym (i.apart (set_of a.t.seen) a.t.apart))
