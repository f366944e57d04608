-- `write_short` makes the tests one after the other, and tries the pass where all hold.
-- Each way out cites the law of its test.
use native.Mathlib.Omega.{arith}
use mathlib.Core.Path.{sym, ◌∙◌}
use lib.ListN.{length-take}
use Rattle.definitions.specs.Basic.{content, most_octets, most_log}
use Rattle.kept.specs.Kept.{used_of}
use Rattle.measured_writing.proofs.Encoding.{not-long}
use Rattle.writing.specs.Passing.{most_passed}
use Rattle.writing.proofs.Passing.{long-received, long_kept, long-set, long_order, no_rows, tried}
use Rattle.writing.proofs.write_short.Goals as goal
use Rattle.writing.proofs.write_short.Goals.{then-received-gt-MOST_PASSED-via-then-received-gt-MOST_PASSED, then-received-gt-MOST_PASSED-via-else-received-gt-MOST_PASSED+then-too_long, then-received-gt-MOST_PASSED-via-else-received-gt-MOST_PASSED+else-too_long+then-too_long-2, then-received-gt-MOST_PASSED-via-else-received-gt-MOST_PASSED+else-too_long+else-too_long-2+then-too_long-3, then-received-gt-MOST_PASSED-via-else-received-gt-MOST_PASSED+else-too_long+else-too_long-2+else-too_long-3+then-rows-places}

pub returns-then-received-gt-MOST_PASSED : goal.returns-then-received-gt-MOST_PASSED
returns-then-received-gt-MOST_PASSED c =
    let a = c.args in
    elim c.then-received-gt-MOST_PASSED.branch [
      | then-received-gt-MOST_PASSED-via-then-received-gt-MOST_PASSED w ↦ long-received a.table.now a.index.now a.rows.now a.received.now (used_of a.set.now a.set_used) (used_of a.order.now a.order_used) (used_of a.kept.now a.kept_used) a.output.now w.if-received-gt-MOST_PASSED.true
      | then-received-gt-MOST_PASSED-via-else-received-gt-MOST_PASSED+then-too_long w ↦ long_kept a.table.now a.index.now a.rows.now a.received.now (used_of a.set.now a.set_used) (used_of a.order.now a.order_used) (used_of a.kept.now a.kept_used) a.output.now w.if-received-gt-MOST_PASSED.false (sym w.too_long.ensures ∙ w.if-too_long.true)
      | then-received-gt-MOST_PASSED-via-else-received-gt-MOST_PASSED+else-too_long+then-too_long-2 w ↦ long-set a.table.now a.index.now a.rows.now a.received.now (used_of a.set.now a.set_used) (used_of a.order.now a.order_used) (used_of a.kept.now a.kept_used) a.output.now w.if-received-gt-MOST_PASSED.false (sym w.too_long.ensures ∙ w.if-too_long.false) (sym w.too_long-else-too_long.ensures ∙ w.if-too_long-2.true)
      | then-received-gt-MOST_PASSED-via-else-received-gt-MOST_PASSED+else-too_long+else-too_long-2+then-too_long-3 w ↦ long_order a.table.now a.index.now a.rows.now a.received.now (used_of a.set.now a.set_used) (used_of a.order.now a.order_used) (used_of a.kept.now a.kept_used) a.output.now w.if-received-gt-MOST_PASSED.false (sym w.too_long.ensures ∙ w.if-too_long.false) (sym w.too_long-else-too_long.ensures ∙ w.if-too_long-2.false) (sym w.too_long-else-too_long-2.ensures ∙ w.if-too_long-3.true)
      | then-received-gt-MOST_PASSED-via-else-received-gt-MOST_PASSED+else-too_long+else-too_long-2+else-too_long-3+then-rows-places w ↦ no_rows a.table.now a.index.now a.rows.now a.received.now (used_of a.set.now a.set_used) (used_of a.order.now a.order_used) (used_of a.kept.now a.kept_used) a.output.now w.if-received-gt-MOST_PASSED.false (sym w.too_long.ensures ∙ w.if-too_long.false) (sym w.too_long-else-too_long.ensures ∙ w.if-too_long-2.false) (sym w.too_long-else-too_long-2.ensures ∙ w.if-too_long-3.false) (omega (arith, w.if-rows-places.true, w.places.ensures))
    ]

pub slice_bounds-write_pass-end : goal.slice_bounds-write_pass-end
slice_bounds-write_pass-end c = let a = c.args in let w = (not-long most_octets a.set.now a.set_used (sym c.too_long-else-too_long.ensures ∙ c.if-too_long-2.false)).0 in simp length-take (omega arith)

pub slice_bounds-write_pass-end-2 : goal.slice_bounds-write_pass-end-2
slice_bounds-write_pass-end-2 c = let a = c.args in let w = (not-long most_passed a.kept.now a.kept_used (sym c.too_long.ensures ∙ c.if-too_long.false)).0 in simp length-take (omega arith)

pub slice_bounds-write_pass-end-3 : goal.slice_bounds-write_pass-end-3
slice_bounds-write_pass-end-3 c = let a = c.args in let w = (not-long most_log a.order.now a.order_used (sym c.too_long-else-too_long-2.ensures ∙ c.if-too_long-3.false)).0 in simp length-take (omega arith)

pub returns : goal.returns
unfolding content
returns c = let a = c.args in tried a.table.now a.index.now a.rows.now a.received.now (used_of a.set.now a.set_used) (used_of a.order.now a.order_used) (used_of a.kept.now a.kept_used) a.output.now c.if-received-gt-MOST_PASSED.false (sym c.too_long.ensures ∙ c.if-too_long.false) (sym c.too_long-else-too_long.ensures ∙ c.if-too_long-2.false) (sym c.too_long-else-too_long-2.ensures ∙ c.if-too_long-3.false) (omega (arith, c.if-rows-places.false, c.places.ensures)) c.write_pass.ensures
