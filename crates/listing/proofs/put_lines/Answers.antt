-- `put_lines` puts a line a turn: the lines of what is left, put now, give what all lines give from the start.
-- The measure is what is left of the part; a part that is read whole is never cut short.
use Prim.Native.Nat.{◌-◌}
use native.Mathlib.Omega.{arith}
use mathlib.Core.Path.{sym, ◌∙◌}
use Rattle.definitions.specs.Rows.{rows_of}
use Rattle.definitions.specs.Tables.{start_of}
use Rattle.elements.proofs.Nexts.{nexts}
use Rattle.wording.proofs.Said.{line-said}
use Rattle.listing.proofs.Reading.{some-step, none-step, written_start, written, written_all}
use Rattle.listing.proofs.put_lines.Goals as goal

pub loop-e-init : goal.loop-e-init
loop-e-init c = written_start c.args.table.now c.args.option c.args.octets.now c.args.out.now c.args.first _ c.start_state-state.ensures c.requires.2

pub step-requires : goal.step-requires
step-requires c = c.requires.0

pub loop-e-smaller : goal.loop-e-smaller
loop-e-smaller c =
    let n = nexts (rows_of c.args.table.now) start_of c.args.option c.args.octets.now c.loop-e.state c.loop-e.invariant.within _ _ (some-step c.step.result (sym c.in-Some.is ∙ c.unwrap_or.ensures) ∙ c.step.ensures) in
    omega (arith, n.further, n.within, n.some-octet)

pub loop-e-preserved : goal.loop-e-preserved
loop-e-preserved c =
    let n = nexts (rows_of c.args.table.now) start_of c.args.option c.args.octets.now c.loop-e.state c.loop-e.invariant.within _ _ (some-step c.step.result (sym c.in-Some.is ∙ c.unwrap_or.ensures) ∙ c.step.ensures) in
    written c.args.table.now c.args.option c.args.octets.now c.args.out.now c.args.first _ _ _ _ _ _ _ c.loop-e.invariant n (line-said (omega (arith, c.loop-e.invariant.bound, c.loop-e.invariant.within, c.requires.0.short, c.requires.1)) _ c.say_line-used.ensures)

pub returns : goal.returns
returns c =
    let a = c.args in
    let i = c.loop-e.invariant in
    (written_all a.table.now a.option a.octets.now a.out.now a.first i (none-step a.table.now a.option a.octets.now c.loop-e.state i.reads i.within c.step.result c.step.ensures (sym c.in_default.is ∙ c.unwrap_or.ensures)), omega (arith, i.bound, i.within, c.requires.0.short, c.requires.1))
