-- `rest_apart` judges a row a turn: the invariant says that none before disagreed, so that the rest decides.
-- What is left from a row on decides as all do.
use Prim.Native.Nat.{ℕ, ◌-◌}
use native.Mathlib.Omega.{arith}
use mathlib.Core.Path.{◌≡◌, ap, sym, ◌∙◌}
use mathlib.Core.Bool.{not}
use Rattle.definitions.specs.Basic.{is_none}
use Rattle.definitions.specs.Rows.{rows_of, first_iei}
use Rattle.definitions.specs.Values.{first_from}
use Rattle.seen.specs.Seen.{set_of}
use Rattle.rows.specs.declared.columns.Numbers.{Numbers}
use Rattle.rows.proofs.WholeRows.{whole-rows}
use Rattle.values.proofs.Showing.{first-here, first-further, first-over}
use Rattle.agreement.specs.Agreed.{apart_by}
use Rattle.edits.proofs.log.rest_apart.Goals as goal

pub loop-k-init : goal.loop-k-init
loop-k-init c = let z : c.places-k-end.result - 0 ≡ c.places-k-end.result = omega arith in (c.places-k-end.ensures, omega arith, ap (first_from (λ j. apart_by c.args.rows.now (set_of c.args.seen) j (first_iei (rows_of c.args.table.now) j)) 0) z)

pub returns-then-apart_with : goal.returns-then-apart_with
unfolding is_none
returns-then-apart_with c =
    let here : apart_by c.args.rows.now (set_of c.args.seen) c.loop-k.k (first_iei (rows_of c.args.table.now) c.loop-k.k) ≡ c.apart_with.result = sym (c.apart_with.ensures ∙ ap (apart_by c.args.rows.now (set_of c.args.seen) c.loop-k.k) (ap (λ (n : Numbers). n.first) c.numbers_at.ensures ∙ (whole-rows c.args.table.now (c.requires)).first c.loop-k.k)) in
    let e = sym c.loop-k.invariant.2 ∙ first-here (λ j. apart_by c.args.rows.now (set_of c.args.seen) j (first_iei (rows_of c.args.table.now) j)) c.places-k-end.result c.loop-k.k (omega arith) (here ∙ c.if-apart_with.true) in sym (ap (λ (m : ℕ). not (is_none (first_from (λ j. apart_by c.args.rows.now (set_of c.args.seen) j (first_iei (rows_of c.args.table.now) j)) 0 m))) (sym c.loop-k.invariant.0) ∙ rw e)

pub loop-k-preserved : goal.loop-k-preserved
loop-k-preserved c =
    let here : apart_by c.args.rows.now (set_of c.args.seen) c.loop-k.k (first_iei (rows_of c.args.table.now) c.loop-k.k) ≡ c.apart_with.result = sym (c.apart_with.ensures ∙ ap (apart_by c.args.rows.now (set_of c.args.seen) c.loop-k.k) (ap (λ (n : Numbers). n.first) c.numbers_at.ensures ∙ (whole-rows c.args.table.now (c.requires)).first c.loop-k.k)) in
    (c.loop-k.invariant.0, omega arith, first-further (λ j. apart_by c.args.rows.now (set_of c.args.seen) j (first_iei (rows_of c.args.table.now) j)) c.places-k-end.result c.loop-k.k (omega arith) (here ∙ c.if-apart_with.false) ∙ c.loop-k.invariant.2)

pub returns : goal.returns
unfolding is_none
returns c = let e = sym c.loop-k.invariant.2 ∙ first-over (λ j. apart_by c.args.rows.now (set_of c.args.seen) j (first_iei (rows_of c.args.table.now) j)) c.places-k-end.result c.loop-k.k (omega arith) in sym (ap (λ (m : ℕ). not (is_none (first_from (λ j. apart_by c.args.rows.now (set_of c.args.seen) j (first_iei (rows_of c.args.table.now) j)) 0 m))) (sym c.loop-k.invariant.0) ∙ rw e)
