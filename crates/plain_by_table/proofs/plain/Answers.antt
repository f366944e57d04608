-- `plain` hands the part to the shortest array that holds its rows, where the limits hold.
-- Each has the same contract; by the table's own index it is the table's.
use native.Mathlib.Omega.{arith}
use mathlib.Core.Path.{sym, ◌∙◌}
use lib.ListN.{length}
use Rattle.plain_by_table.proofs.Held.{Held, held}
use Rattle.plain_by_table.proofs.Own.{answers}
use Rattle.plain_by_table.proofs.plain.Goals as goal
use Rattle.plain_by_table.proofs.plain.Goals.{Else-not-fits}

-- where the limits hold
held-here : (c : Else-not-fits) → let a = c.args in Held a.table.now a.octets.now (length a.rows.now)
held-here c = let a = c.args in held a.table.now a.octets.now (length a.rows.now) (sym c.fits.ensures ∙ c.if-not-fits.false)

pub overflow_mul-n : goal.overflow_mul-n
overflow_mul-n c = let h = held-here (goal.at.overflow_mul-n c).Else-not-fits in omega (arith, c.places-n.ensures, h.few)

pub plain_in-requires : goal.plain_in-requires
plain_in-requires c =
    let a = c.args in
    let h = held-here (goal.at.plain_in-requires c).Else-not-fits in
    (record { short = h.short; room = h.room-is }, omega (arith, c.places-n.ensures, h.few), omega arith)

pub returns-then-n-le64-clause-plainly : goal.returns-then-n-le64-clause-plainly
returns-then-n-le64-clause-plainly c = let a = c.args in (answers a.table.now a.index.now a.octets.now a.rows.now (λ j. omega (arith, c.type_inv.octets j)) c.plain_in.ensures).1

pub plain_in-requires-then-n-le160 : goal.plain_in-requires-then-n-le160
plain_in-requires-then-n-le160 c =
    let a = c.args in
    let h = held-here (goal.at.plain_in-requires-then-n-le160 c).Else-not-fits in
    (record { short = h.short; room = h.room-is }, omega (arith, c.places-n.ensures, h.few), omega arith)

pub returns-then-n-le160-clause-plainly : goal.returns-then-n-le160-clause-plainly
returns-then-n-le160-clause-plainly c = let a = c.args in (answers a.table.now a.index.now a.octets.now a.rows.now (λ j. omega (arith, c.type_inv.octets j)) c.plain_in-then-n-le160.ensures).1

pub plain_in-requires-2 : goal.plain_in-requires-2
plain_in-requires-2 c =
    let a = c.args in
    let h = held-here (goal.at.plain_in-requires-2 c).Else-not-fits in
    (record { short = h.short; room = h.room-is }, omega (arith, c.places-n.ensures, h.few), omega arith)

pub returns-clause-plainly : goal.returns-clause-plainly
returns-clause-plainly c = let a = c.args in (answers a.table.now a.index.now a.octets.now a.rows.now (λ j. omega (arith, c.type_inv.octets j)) c.plain_in-2.ensures).1
