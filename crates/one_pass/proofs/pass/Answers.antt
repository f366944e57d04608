-- `pass` goes over the order log, then over what is left behind it.
-- What is left leads to the whole message, by the names that it has.
use native.Mathlib.Omega.{arith}
use mathlib.Core.Path.{sym}
use Rattle.seen.specs.Seen.{set_of}
use Rattle.placing.specs.Pieces.{lent_of}
use Rattle.placing.proofs.Pieces.{put-not}
use Rattle.one_pass.proofs.Turns.{passing-end, by_names}
use Rattle.one_pass.proofs.pass.Goals as goal

pub pass_rest-requires : goal.pass_rest-requires
pass_rest-requires c = let l = rw c.in_ok-pen.was at c.pass_entries.ensures in (omega (arith, l.room, l.long), l.inside)

pub returns : goal.returns
returns c =
    let a = c.args in
    rw (sym (by_names (lent_of a.table.now a.rows.now a.received.now a.set.now) a.index.now a.order.now a.kept.now c.names_of-names.ensures c.places.ensures)) (passing-end (lent_of a.table.now a.rows.now a.received.now a.set.now) a.index.now (set_of c.names_of-names.result) a.order.now a.kept.now a.out.now (rw c.in_ok-pen.was at c.pass_entries.ensures) c.pass_rest.ensures)

pub returns-in_err-pen : goal.returns-in_err-pen
returns-in_err-pen c = let a = c.args in rw (sym (by_names (lent_of a.table.now a.rows.now a.received.now a.set.now) a.index.now a.order.now a.kept.now c.names_of-names.ensures c.places.ensures)) (rw c.from_residual.ensures (put-not (rw c.in_err-pen.was at c.pass_entries.ensures)))
