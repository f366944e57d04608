-- `read_whole` passes an element a turn: what is left is cut short exactly where the part is.
-- The measure is what is left of the part.
use Prim.Native.Nat.{◌-◌}
use native.Mathlib.Omega.{arith}
use mathlib.Core.Path.{ap, sym, ◌∙◌}
use Rattle.std.specs.Prelude.{Ok}
use Rattle.std.proofs.lemmas.Result.{err_from_is_err_and}
use Rattle.definitions.specs.Rows.{rows_of}
use Rattle.definitions.specs.Tables.{start_of}
use Rattle.elements.proofs.Nexts.{nexts, cuts, ends}
use Rattle.listing.specs.Parts.{whole_of}
use Rattle.listing.proofs.Reading.{sought-start, sought}
use Rattle.listing.proofs.read_whole.Goals as goal

pub loop-next-init : goal.loop-next-init
loop-next-init c = sought-start c.args.table.now c.args.option c.args.octets.now _ c.start_state-state.ensures

pub step-requires : goal.step-requires
step-requires c = c.requires

pub loop-next-smaller : goal.loop-next-smaller
loop-next-smaller c = let n = nexts (rows_of c.args.table.now) start_of c.args.option c.args.octets.now c.loop-next.state c.loop-next.invariant.within _ _ (ap Ok (sym c.in-Some.is) ∙ c.in_ok-next.ensures) in omega (arith, n.further, n.within, n.some-octet)

pub loop-next-preserved : goal.loop-next-preserved
loop-next-preserved c = sought c.args.table.now c.args.option c.args.octets.now c.loop-next.invariant (nexts (rows_of c.args.table.now) start_of c.args.option c.args.octets.now c.loop-next.state c.loop-next.invariant.within _ _ (ap Ok (sym c.in-Some.is) ∙ c.in_ok-next.ensures))

pub returns-in_err-next : goal.returns-in_err-next
returns-in_err-next c =
    let p = err_from_is_err_and c.from_residual.result c.from_residual.ensures.1 in
    rw (p.1, p.2) (ap whole_of (sym (cuts (rows_of c.args.table.now) start_of c.args.option c.args.octets.now c.loop-next.state c.loop-next.invariant.within c.in_err-next.ensures)) ∙ c.loop-next.invariant.tells)

pub returns : goal.returns
returns c = ap whole_of (sym (ends (rows_of c.args.table.now) start_of c.args.option c.args.octets.now c.loop-next.state c.loop-next.invariant.within (ap Ok (sym c.in_default.is) ∙ c.in_ok-next.ensures))) ∙ c.loop-next.invariant.tells
