-- `any_bad` looks at a row a turn: the invariant says that none before was bad, so that the rest decides.
use Prim.Native.Nat.{ℕ, ◌-◌}
use native.Mathlib.Omega.{arith}
use mathlib.Core.Path.{◌≡◌, ap, sym, ◌∙◌}
use mathlib.Core.Bool.{not}
use mathlib.Core.Option.{Option}
use Rattle.definitions.specs.Basic.{is_none}
use Rattle.definitions.specs.Values.{value_in, good_value, first_from, bad_rows}
use Rattle.values.specs.Rows.{width_of, sources_of}
use Rattle.values.proofs.Showing.{first-here, first-further, first-over}
use Rattle.values.proofs.row.any_bad.Goals as goal

minus-zero : (n : ℕ) → n - 0 ≡ n
minus-zero n = omega arith

pub loop-k-init : goal.loop-k-init
loop-k-init c = ap (λ (m : ℕ). is_none (first_from (λ j. not (good_value (sources_of c.args.received.now c.args.set.now) (value_in (width_of c.args.with_iei) c.args.rows.now j))) 0 m)) (minus-zero c.args.n)

pub returns-then-not-is_good : goal.returns-then-not-is_good
unfolding bad_rows is_none
returns-then-not-is_good c =
    let good-here : c.is_good.result ≡ good_value (sources_of c.args.received.now c.args.set.now) (value_in (width_of c.args.with_iei) c.args.rows.now c.loop-k.k) = c.is_good.ensures ∙ ap (good_value (sources_of c.args.received.now c.args.set.now)) c.row_of.ensures in
    sym (ap not (sym c.loop-k.invariant) ∙ ap (λ (o : Option ℕ). not (is_none o)) (first-here (λ j. not (good_value (sources_of c.args.received.now c.args.set.now) (value_in (width_of c.args.with_iei) c.args.rows.now j))) c.args.n c.loop-k.k (omega arith) (ap not (sym good-here ∙ c.if-not-is_good.true))))

pub loop-k-preserved : goal.loop-k-preserved
loop-k-preserved c =
    let good-here : c.is_good.result ≡ good_value (sources_of c.args.received.now c.args.set.now) (value_in (width_of c.args.with_iei) c.args.rows.now c.loop-k.k) = c.is_good.ensures ∙ ap (good_value (sources_of c.args.received.now c.args.set.now)) c.row_of.ensures in
    ap is_none (first-further (λ j. not (good_value (sources_of c.args.received.now c.args.set.now) (value_in (width_of c.args.with_iei) c.args.rows.now j))) c.args.n c.loop-k.k (omega arith) (ap not (sym good-here ∙ c.if-not-is_good.false))) ∙ c.loop-k.invariant

pub returns : goal.returns
unfolding bad_rows is_none
returns c = sym (ap not (sym c.loop-k.invariant ∙ ap is_none (first-over (λ j. not (good_value (sources_of c.args.received.now c.args.set.now) (value_in (width_of c.args.with_iei) c.args.rows.now j))) c.args.n c.loop-k.k (omega arith))))
