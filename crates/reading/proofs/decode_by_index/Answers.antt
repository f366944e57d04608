-- `decode_by_index` takes the pass over a part of which the table says all first.
-- Where the pass says no, the rows are as they were, and the part is read element by element, with the checks that need no reading.
use native.Mathlib.Omega.{arith}
use mathlib.Core.Path.{ap, sym}
use mathlib.Core.List.{List}
use Prim.Native.Nat.{ℕ}
use lib.ListN.{length}
use Rattle.definitions.specs.Reading.{reading}
use Rattle.filling.specs.Decodes.{lent_of}
use Rattle.noting.proofs.Decoding.{all_plain, moved}
use Rattle.plain_by_table.proofs.Held.{holding}
use Rattle.plain_by_table.proofs.Own.{was-held, unmoved, unplain}
use Rattle.reading.proofs.decode_by_index.Goals as goal

pub returns-then-plain : goal.returns-then-plain
returns-then-plain c =
    let a = c.args in
    let r = c.requires in
    let p = c.plain.ensures in
    let h = was-held (rw c.if-plain.true at (p.by_index a.tlve_start a.option)) in
    all_plain a.table.now a.tlve_start a.option a.octets.now a.rows.now a.kept.now a.order.now r.1 h.short h.room-is
    (rw c.if-plain.true at (p.plainly r.0 (holding a.table.now a.octets.now (length a.rows.now) h) a.tlve_start a.option))

pub returns : goal.returns
returns c =
    let a = c.args in
    let r = c.requires in
    let p = c.plain.ensures in
    let n = c.if-plain.false in
    let u = unmoved (rw n at (p.by_index a.tlve_start a.option)) in
    moved (ap (λ (rows : List ℕ). reading a.table.now a.tlve_start a.option a.octets.now (lent_of rows a.kept.now a.order.now)) (sym u))
    (c.decode_noted.ensures.own_index r.0 r.1
    (λ short room. unplain a.table.now a.tlve_start a.option a.octets.now a.rows.now r.1 (λ h. rw n at (p.plainly r.0 h a.tlve_start a.option)) short (omega (arith, room, ap length u))))
