-- `encode_by_index` makes the checks of the lengths, and writes from the octets that are used.
-- What is behind those does not matter.
use Prim.Native.Nat.{◌≤◌}
use native.Mathlib.Omega.{arith}
use mathlib.Core.Path.{◌≡◌, sym, ◌∙◌}
use mathlib.Core.Bool.{false}
use lib.ListN.{length, length-take}
use Rattle.definitions.specs.Basic.{too_long, most_octets, most_log}
use Rattle.definitions.specs.Rows.{rows_of}
use Rattle.definitions.proofs.TableLaws.{few-places}
use Rattle.definitions.proofs.Checks.{neither}
use Rattle.kept.specs.Kept.{used_of}
use Rattle.measured_writing.proofs.Encoding.{moved, no_more, values-short, long-values, long-logs, no_rows, within, limited, by-content}
use Rattle.measured_writing.proofs.encode.encode_by_index.Goals as goal
use Rattle.measured_writing.proofs.encode.encode_by_index.Goals.{Else-logs_long, then-too_long-via-then-too_long, then-too_long-via-else-too_long+then-logs_long}

pub returns-then-too_long : goal.returns-then-too_long
returns-then-too_long c =
    let a = c.args in
    elim c.then-too_long.branch [
      | then-too_long-via-then-too_long w ↦ long-values a.table.now a.index.now a.rows.now a.received.now a.set.now a.set_used a.kept.now a.kept_used a.order.now a.order_used a.output.now c.requires.0 (sym (no_more a.received.now a.set.now a.set_used) ∙ sym c.too_long.ensures ∙ w.if-too_long.true)
      | then-too_long-via-else-too_long+then-logs_long w ↦ long-logs a.table.now a.index.now a.rows.now a.received.now a.set.now a.set_used a.kept.now a.kept_used a.order.now a.order_used a.output.now c.requires.0 (sym (no_more a.received.now a.set.now a.set_used) ∙ sym c.too_long.ensures ∙ w.if-too_long.false) (sym w.logs_long.ensures ∙ w.if-logs_long.true)
    ]

-- nothing is too long
short : (c : Else-logs_long) → let a = c.args in (length a.received.now ≤ most_octets) × (too_long most_octets (used_of a.set.now a.set_used) ≡ false) × (too_long most_log (used_of a.order.now a.order_used) ≡ false) × (too_long most_log (used_of a.kept.now a.kept_used) ≡ false)
short c =
    let a = c.args in
    let v = values-short a.received.now a.set.now a.set_used (sym (no_more a.received.now a.set.now a.set_used) ∙ sym c.too_long.ensures ∙ c.if-too_long.false) in
    let l = neither _ _ (sym c.logs_long.ensures ∙ c.if-logs_long.false) in
    (v.0, v.1, l.0, l.1)

pub overflow_mul-places : goal.overflow_mul-places
overflow_mul-places c = omega (arith, c.places.ensures, few-places (rows_of c.args.table.now) c.requires.0)

pub returns-then-rows-places : goal.returns-then-rows-places
returns-then-rows-places c = let a = c.args in let s = short (goal.at.returns-then-rows-places c).Else-logs_long in no_rows a.table.now a.index.now a.rows.now a.received.now a.set.now a.set_used a.kept.now a.kept_used a.order.now a.order_used a.output.now c.requires.0 s.0 s.1 s.2 s.3 (omega (arith, c.if-rows-places.true, c.places.ensures))

pub slice_bounds-encode_logged-end : goal.slice_bounds-encode_logged-end
slice_bounds-encode_logged-end c = let a = c.args in let s = short (goal.at.slice_bounds-encode_logged-end c).Else-logs_long in let w = within a.table.now a.index.now a.rows.now a.received.now a.set.now a.set_used a.kept.now a.kept_used a.order.now a.order_used a.output.now c.requires.0 s.0 s.1 s.2 s.3 in simp length-take (omega arith)

pub slice_bounds-encode_logged-end-2 : goal.slice_bounds-encode_logged-end-2
slice_bounds-encode_logged-end-2 c = let a = c.args in let s = short (goal.at.slice_bounds-encode_logged-end-2 c).Else-logs_long in let w = within a.table.now a.index.now a.rows.now a.received.now a.set.now a.set_used a.kept.now a.kept_used a.order.now a.order_used a.output.now c.requires.0 s.0 s.1 s.2 s.3 in simp length-take (omega arith)

pub slice_bounds-encode_logged-end-3 : goal.slice_bounds-encode_logged-end-3
slice_bounds-encode_logged-end-3 c = let a = c.args in let s = short (goal.at.slice_bounds-encode_logged-end-3 c).Else-logs_long in let w = within a.table.now a.index.now a.rows.now a.received.now a.set.now a.set_used a.kept.now a.kept_used a.order.now a.order_used a.output.now c.requires.0 s.0 s.1 s.2 s.3 in simp length-take (omega arith)

pub encode_logged-requires : goal.encode_logged-requires
encode_logged-requires c = let a = c.args in let s = short (goal.at.encode_logged-requires c).Else-logs_long in limited a.table.now a.index.now a.rows.now a.received.now a.set.now a.set_used a.kept.now a.kept_used a.order.now a.order_used a.output.now c.requires.0 s.0 s.1 s.2 s.3 (omega (arith, c.if-rows-places.false, c.places.ensures)) c.requires.1

pub returns : goal.returns
returns c = let a = c.args in let s = short (goal.at.returns c).Else-logs_long in moved (by-content a.table.now a.index.now a.rows.now a.received.now a.set.now a.set_used a.kept.now a.kept_used a.order.now a.order_used a.output.now c.requires.0 s.0 s.1 s.2 s.3 (omega (arith, c.if-rows-places.false, c.places.ensures)) c.requires.1) c.encode_logged.ensures
