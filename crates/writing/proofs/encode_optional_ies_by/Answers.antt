-- `encode_optional_ies_by` writes in one pass where that does, and else what is measured first.
-- What the pass writes is what writing does; where it gave up the output is as it was.
use mathlib.Core.Path.{refl}
use Rattle.definitions.proofs.WriteLaws.{write-by, write-none}
use Rattle.kept.specs.Kept.{used_of}
use Rattle.real.proofs.RealLaws.{passes_of}
use Rattle.measured_writing.proofs.Encoding.{refused, moved}
use Rattle.writing.proofs.Passing.{short-done}
use Rattle.writing.proofs.encode_optional_ies_by.Goals as goal

pub returns-in_default : goal.returns-in_default
returns-in_default c =
    let a = c.args in
    refused (write-none a.number a.rows.now a.received.now (used_of a.set.now a.set_used) (used_of a.order.now a.order_used) (used_of a.kept.now a.kept_used) a.output.now c.in_default.ensures) refl

pub returns-in-Some-write_short : goal.returns-in-Some-write_short
returns-in-Some-write_short c =
    let a = c.args in
    let t = c.in-Some.table in
    let h = c.in-Some.ensures in
    let w = short-done t.rows.now t.index.now a.rows.now a.received.now a.set.now a.set_used a.kept.now a.kept_used a.order.now a.order_used a.output.now (passes_of a.number h.0) h.1 c.write_short.ensures in
    moved (write-by a.number a.rows.now a.received.now (used_of a.set.now a.set_used) (used_of a.order.now a.order_used) (used_of a.kept.now a.kept_used) a.output.now h.0) (w.done _ c.in-Some-write_short.is)

pub returns-in-None : goal.returns-in-None
returns-in-None c =
    let a = c.args in
    let t = c.in-Some.table in
    let h = c.in-Some.ensures in
    let w = short-done t.rows.now t.index.now a.rows.now a.received.now a.set.now a.set_used a.kept.now a.kept_used a.order.now a.order_used a.output.now (passes_of a.number h.0) h.1 c.write_short.ensures in
    moved (write-by a.number a.rows.now a.received.now (used_of a.set.now a.set_used) (used_of a.order.now a.order_used) (used_of a.kept.now a.kept_used) a.output.now h.0) (rw (w.not_done c.in-None.is) at c.encode_measured.ensures)
