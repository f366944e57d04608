-- `decode_into` enters the part into arrays that hold twice its octets, as much as any log needs; then come the checks of the logs, in
-- document 01's order, and what was entered is copied out.
use Prim.Native.Nat.{◌*◌}
use native.Mathlib.Omega.{arith}
use mathlib.Core.Path.{ap, ◌∙◌}
use lib.ListN.{length}
use Rattle.std.specs.Prelude.{Err}
use Rattle.definitions.specs.Rows.{rows_of}
use Rattle.by_index.specs.ByIndex.{rows_by}
use Rattle.filling.proofs.ByIndex.{places-by}
use Rattle.plain_reading.proofs.Copied.{all-copied}
use Rattle.noting.proofs.Copied.{used-within, log-copied, read-all, read_cut, read-room, written}
use Rattle.filling.proofs.Noting.{needed-by, cut_short_lem, no-kept, no-order, done}
use Rattle.noting.proofs.short.decode_into.Goals as goal

pub returns-in-Err-CutShort : goal.returns-in-Err-CutShort
returns-in-Err-CutShort g c =
    let a = c.args in
    let f = c.requires in
    cut_short_lem a.table.now a.index.now a.tlve_start a.option a.octets.now a.rows.now a.kept.now a.order.now f.0.short f.0.room (read_cut a.table.now a.index.now a.tlve_start a.option a.octets.now g.row.ROWS g.row.LOG f.0.short (omega (arith, f.1, f.2)) f.3 (rw (c.in-Err-CutShort.is ∙ ap Err (rw c.in-Err-CutShort.is at c.in-Err-CutShort.field-0-is)) at c.fill_over-filled.ensures))

-- the arrays hold what the part may need
pub unreachable-requires : goal.unreachable-requires
unreachable-requires g c =
    let a = c.args in
    let f = c.requires in
    read-room a.table.now a.index.now a.tlve_start a.option a.octets.now g.row.ROWS g.row.LOG f.0.short (omega (arith, f.1, f.2)) f.3 (rw (c.in-Err-NoRoom.is ∙ ap Err (rw c.in-Err-NoRoom.is at c.in-Err-NoRoom.field-0-is)) at c.fill_over-filled.ensures)

pub returns-then-kept-used : goal.returns-then-kept-used
returns-then-kept-used g c =
    let a = c.args in
    let f = c.requires in
    let e = read-all a.table.now a.index.now a.tlve_start a.option a.octets.now g.row.ROWS g.row.LOG f.0.short (omega (arith, f.1, f.2)) f.3 (rw c.in-Ok.is at c.fill_over-filled.ensures) in
    no-kept a.table.now a.index.now a.tlve_start a.option a.octets.now a.rows.now a.kept.now a.order.now f.0.short f.0.room c.in-Ok.used (needed-by e) (omega arith)

pub returns-then-order-used : goal.returns-then-order-used
returns-then-order-used g c =
    let a = c.args in
    let f = c.requires in
    let e = read-all a.table.now a.index.now a.tlve_start a.option a.octets.now g.row.ROWS g.row.LOG f.0.short (omega (arith, f.1, f.2)) f.3 (rw c.in-Ok.is at c.fill_over-filled.ensures) in
    no-order a.table.now a.index.now a.tlve_start a.option a.octets.now a.rows.now a.kept.now a.order.now f.0.short f.0.room c.in-Ok.used (needed-by e) (omega arith) (omega arith)

pub shared_whole_as_front-put_slice : goal.shared_whole_as_front-put_slice
shared_whole_as_front-put_slice g c =
    let a = c.args in
    let f = c.requires in
    let e = read-all a.table.now a.index.now a.tlve_start a.option a.octets.now g.row.ROWS g.row.LOG f.0.short (omega (arith, f.1, f.2)) f.3 (rw c.in-Ok.is at c.fill_over-filled.ensures) in
    (omega (arith, used-within _ _ e.kept-used e.kept-is), omega (arith, f.5))

pub shared_whole_as_front-put_slice-2 : goal.shared_whole_as_front-put_slice-2
shared_whole_as_front-put_slice-2 g c =
    let a = c.args in
    let f = c.requires in
    let e = read-all a.table.now a.index.now a.tlve_start a.option a.octets.now g.row.ROWS g.row.LOG f.0.short (omega (arith, f.1, f.2)) f.3 (rw c.in-Ok.is at c.fill_over-filled.ensures) in
    (omega (arith, used-within _ _ e.order-used e.order_is), omega (arith, f.5))

pub returns : goal.returns
returns g c =
    let a = c.args in
    let f = c.requires in
    let e = read-all a.table.now a.index.now a.tlve_start a.option a.octets.now g.row.ROWS g.row.LOG f.0.short (omega (arith, f.1, f.2)) f.3 (rw c.in-Ok.is at c.fill_over-filled.ensures) in
    done a.table.now a.index.now a.tlve_start a.option a.octets.now a.rows.now a.kept.now a.order.now f.0.short f.0.room c.in-Ok.used (needed-by e) (omega arith) (omega arith)
    (written (rows_by a.table.now a.index.now) a.tlve_start a.option a.octets.now g.row.ROWS (4 * length (rows_of a.table.now)) (omega (arith, f.1, f.2)) (places-by a.table.now a.index.now a.tlve_start a.option) a.n f.1 e
    (all-copied a.rows.now _ a.n (omega (arith, f.1, f.0.room)) (omega (arith, f.2)) c.copy_rows.ensures)
    (log-copied _ a.kept.now c.in-Ok.used.kept (omega arith) c.put_slice.ensures)
    (log-copied _ a.order.now c.in-Ok.used.order (omega arith) c.put_slice-2.ensures))
