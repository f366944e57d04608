-- `plain_in` copies out what the pass found among zeros; where the table does not say all, nothing is copied.
-- The rows found are those of the part's places.
use Prim.Native.Nat.{ℕ, ◌*◌}
use native.Mathlib.Omega.{arith}
use mathlib.Core.Path.{ap}
use Rattle.plain_reading.proofs.Copied.{all-copied}
use Rattle.plain_by_table.proofs.Answered.{all_plain}
use Rattle.plain_by_table.proofs.plain_in.Goals as goal

pub returns-then-plain : goal.returns-then-plain
returns-then-plain g c start option =
    let a = c.args in
    let r = c.requires in
    rw c.if-plain.true
    (all_plain a.table.now a.index.now a.octets.now a.rows.now start option (record { short = r.0.short; few = omega (arith, r.1, r.2); room-is = r.0.room }) g.row.N r.1 (4 * c.places.result) (ap (λ (m : ℕ). 4 * m) c.places.ensures) _
    (rw c.if-plain.true at (c.plain_pass-plain.ensures start option))
    (all-copied a.rows.now _ (4 * c.places.result) (omega (arith, r.0.room, c.places.ensures)) (omega (arith, r.1, c.places.ensures)) c.copy_rows.ensures))
