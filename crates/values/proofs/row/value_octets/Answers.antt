-- `value_octets` is the part that the row names.
-- Of a present value it is a part of what its source names, which stands at its start.
use Prim.Native.Nat.{ℕ, ◌+◌, ◌-◌}
use native.Mathlib.Omega.{arith}
use mathlib.Core.Path.{◌≡◌, refl, ap, sym, ◌∙◌}
use lib.ListN.{take, drop}
use Rattle.values.specs.Rows.{sources_of, value_of}
use Rattle.values.proofs.Showing.{octets-absent, octets-named}
use Rattle.values.proofs.row.value_octets.Goals as goal

pub returns-then-source-eq0 : goal.returns-then-source-eq0
returns-then-source-eq0 c =
    let a = c.args in
    let none = octets-absent (sources_of a.received.now a.set.now) (value_of a.row) (omega arith) in
    record { result_value = c.part.ensures.result_value ∙ sym none; placed_as = ((λ h. absurd (omega arith)), (λ h. absurd (omega arith))) }

pub returns-then-end-from : goal.returns-then-end-from
returns-then-end-from c =
    let a = c.args in
    let from = c.source_of-from.result in
    let s = a.row.start in
    let l = a.row.len in
    let e : s + l - s ≡ l = omega arith in
    let q = octets-named a.received a.set from (record { ref_ptr = (from.ref_ptr.0, s + from.ref_ptr.1); now = take (s + l - s) (drop s from.now) }) (value_of a.row)
    (let z = c.if-source-eq0.false in omega arith) c.source_of-from.ensures (ap (λ (n : ℕ). take n (drop s from.now)) e) (λ h. refl) in record { result_value = q.0; placed_as = q.1 }

pub returns : goal.returns
returns c =
    let a = c.args in
    let q = octets-named a.received a.set c.source_of-from.result c.part-2.result (value_of a.row) (let z = c.if-source-eq0.false in omega arith) c.source_of-from.ensures
    c.part-2.ensures.result_value c.part-2.ensures.stands_at in record { result_value = q.0; placed_as = q.1 }
