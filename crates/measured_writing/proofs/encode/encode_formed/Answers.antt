-- `encode_formed` makes the checks of the rows in their order, measures, and writes.
-- Each way out cites the law of its check; what was measured is as long as what is written.
use Prim.Native.Nat.{ℕ}
use native.Mathlib.Omega.{arith}
use mathlib.Core.Path.{◌≡◌, ap, sym, ◌∙◌}
use mathlib.Core.List.{List, []}
use mathlib.Core.Bool.{true, false}
use lib.ListN.{length}
use Rattle.definitions.specs.Basic.{over}
use Rattle.definitions.specs.Rows.{rows_of}
use Rattle.logs.proofs.Formed.{kept-few, kept-told}
use Rattle.seen.specs.Seen.{set_of}
use Rattle.agreement.specs.Agreed.{Agreeing}
use Rattle.measured_writing.specs.Added.{filled_of}
use Rattle.measured_writing.proofs.Encoding.{needed, all_left, writable, wrong-rows, apart-rows, bad-rows, no-survey, no_output, done}
use Rattle.measured_writing.proofs.Walked.{all-written}
use Rattle.std.proofs.Common.{rules}
use Rattle.std.proofs.lemmas.Result.{err_from_is_err_and}
use Rattle.measured_writing.proofs.encode.encode_formed.Goals as goal

pub returns-then-t : goal.returns-then-t
returns-then-t c = let a = c.args in let m = filled_of a.table.now a.rows.now a.received.now a.set.now in let k = kept-told a.kept.now c.requires.2 in bad-rows a.table.now a.index.now a.rows.now a.received.now a.set.now a.kept.now a.order.now a.output.now c.requires.0 c.requires.1.tells.ps c.requires.1.tells.is k.es k.kept-is (apart-rows m (set_of a.t.seen) c.requires.1.tells.ps (let apart : c.args.t.apart ≡ true = search rules in rw apart at c.requires.1.agrees))

pub survey-requires : goal.survey-requires
survey-requires c = (c.requires.0.sized.passes, c.requires.0.sized.received-short, c.requires.0.sized.set-short)

pub overflow_add-need : goal.overflow_add-need
overflow_add-need c = let k = kept-told c.args.kept.now c.requires.2 in omega (arith, c.requires.1.few, k.octets-are, kept-few c.args.kept.now k.kept-is, c.requires.0.order-short, c.requires.0.kept-short)

pub overflow_add-need-2 : goal.overflow_add-need-2
overflow_add-need-2 c =
    let k = kept-told c.args.kept.now c.requires.2 in omega (arith, c.requires.1.few, k.octets-are, kept-few c.args.kept.now k.kept-is, c.requires.0.order-short, c.requires.0.kept-short, c.in_ok-added.ensures.4)

pub returns-then-output-need : goal.returns-then-output-need
returns-then-output-need c =
    let agreed : Agreeing (rows_of c.args.table.now) c.args.rows.now c.requires.1.tells.ps [] (set_of c.args.t.seen) false = (let apart : c.args.t.apart ≡ false = search rules in rw apart at c.requires.1.agrees) in
    let surveyed = c.in_ok-added.ensures in
    let a = c.args in let m = filled_of a.table.now a.rows.now a.received.now a.set.now in let k = kept-told a.kept.now c.requires.2 in no_output a.table.now a.index.now a.rows.now a.received.now a.set.now a.kept.now a.order.now a.output.now c.requires.0 c.requires.1.tells.ps c.requires.1.tells.is k.es k.kept-is (sym (wrong-rows m (set_of a.t.seen) c.requires.1.tells.ps (agreed)) ∙ (surveyed).0) (surveyed).1 _ (needed m a.order.now a.t.octets (set_of a.t.seen) (set_of c.in_ok-added.added.seen) c.requires.1.tells (surveyed).2 k.es k.octets-are (surveyed).3) c.if-output-need.true

pub returns-in_err-added : goal.returns-in_err-added
returns-in_err-added c =
    let p = err_from_is_err_and c.from_residual.result c.from_residual.ensures.1 in
    let agreed : Agreeing (rows_of c.args.table.now) c.args.rows.now c.requires.1.tells.ps [] (set_of c.args.t.seen) false = (let apart : c.args.t.apart ≡ false = search rules in rw apart at c.requires.1.agrees) in
    let a = c.args in
    let k = kept-told a.kept.now c.requires.2 in
    rw (p.1, p.2) (no-survey a.table.now a.index.now a.rows.now a.received.now a.set.now a.kept.now a.order.now a.output.now c.requires.0 c.requires.1.tells.ps c.requires.1.tells.is k.es k.kept-is (set_of a.t.seen) agreed _ c.in_err-added.ensures)

pub returns : goal.returns
returns c =
    let surveyed = c.in_ok-added.ensures in
    let agreed : Agreeing (rows_of c.args.table.now) c.args.rows.now c.requires.1.tells.ps [] (set_of c.args.t.seen) false = (let apart : c.args.t.apart ≡ false = search rules in rw apart at c.requires.1.agrees) in
    let a = c.args in
    let l = c.requires.0 in
    let g = c.requires.1.tells in
    let m = filled_of a.table.now a.rows.now a.received.now a.set.now in
    let k = kept-told a.kept.now c.requires.2 in
    let u = surveyed in
    let x = set_of c.in_ok-added.added.seen in
    let n = needed m a.order.now a.t.octets (set_of a.t.seen) x g u.2 k.es k.octets-are u.3 in
    let f = all_left m a.order.now a.t.octets (set_of a.t.seen) x g u.2 k.es in
    let y = all-written a.table.now a.rows.now a.received.now a.set.now a.order.now a.kept.now x (writable a.table.now a.rows.now a.received.now a.set.now l.sized.passes u.1) g.ps g.is k.es k.kept-is l.sized.indexed (rw f (omega (arith, n, c.if-output-need.false))) c.write_walk.ensures in
    done a.table.now a.index.now a.rows.now a.received.now a.set.now a.kept.now a.order.now a.output.now l g.ps g.is k.es k.kept-is (sym (wrong-rows m (set_of a.t.seen) g.ps (agreed)) ∙ u.0) u.1 c.write_walk.result (y.0 ∙ ap length f) (omega (arith, y.0, ap length f, n, c.if-output-need.false)) (y.1 ∙ ap (λ (z : List ℕ). over z a.output.now) f)
