-- `put_line_at` looks for the element: what is left of the part has the line that the whole part has.
-- The measure is what is left of the part; a part that is read whole is never cut short.
use Prim.Native.Nat.{◌-◌}
use native.Mathlib.Omega.{arith}
use mathlib.Core.Path.{refl, ap, sym, ◌∙◌}
use lib.ListN.{length}
use Rattle.wording.proofs.Puts.{at-text, at-buffer, put-none, put-long}
use Rattle.wording.proofs.Said.{line-said}
use Rattle.verdicts.proofs.Finding.{some-next, looking-start, next-found, found_none, found, passed_over}
use Rattle.verdicts.proofs.put_line_at.Goals as goal

pub loop-e-init : goal.loop-e-init
loop-e-init c = (looking-start c.args.table.now c.args.octets.now c.args.at _ c.start_state-state.ensures c.requires.0, refl)

pub shape_of-out-then-e-at : goal.shape_of-out-then-e-at
shape_of-out-then-e-at c = put-long c.say_line.ensures ∙ ap length c.loop-e.invariant.1

pub returns-then-e-at : goal.returns-then-e-at
returns-then-e-at c =
    let i = c.loop-e.invariant.0 in
    let n = next-found c.args.table.now c.args.octets.now c.args.at c.requires.0 i (some-next c.next_element.result (sym c.in-Some.is ∙ c.unwrap_or.ensures) ∙ c.next_element.ensures) in
    at-text (found c.args.table.now c.args.octets.now c.args.at i n c.if-e-at.true) (at-buffer c.loop-e.invariant.1 (line-said (omega (arith, c.requires.1)) _ c.say_line.ensures))

pub loop-e-smaller : goal.loop-e-smaller
loop-e-smaller c =
    let n = next-found c.args.table.now c.args.octets.now c.args.at c.requires.0 c.loop-e.invariant.0 (some-next c.next_element.result (sym c.in-Some.is ∙ c.unwrap_or.ensures) ∙ c.next_element.ensures) in
    omega (arith, n.further, n.within, n.some-octet)

pub loop-e-preserved : goal.loop-e-preserved
loop-e-preserved c =
    let i = c.loop-e.invariant.0 in
    let n = next-found c.args.table.now c.args.octets.now c.args.at c.requires.0 i (some-next c.next_element.result (sym c.in-Some.is ∙ c.unwrap_or.ensures) ∙ c.next_element.ensures) in
    (passed_over c.args.table.now c.args.octets.now c.args.at i n c.if-e-at.false, c.loop-e.invariant.1)

pub returns : goal.returns
returns c = at-text (found_none c.args.table.now c.args.octets.now c.args.at c.requires.0 c.loop-e.invariant.0 c.next_element.result c.next_element.ensures (sym c.in_default.is ∙ c.unwrap_or.ensures)) (at-buffer c.loop-e.invariant.1 (put-none c.loop-e.out c.args.used))
