-- A case is the first of those that were left.
use Rattle.std.proofs.Common.{ℕ, zero, suc, ◌+◌, ◌-◌, ◌≡◌, List, refl, subst, arith}
use native.Mathlib.Numerals.{unary_clauses}
use Rattle.recorded.specs.declared.Position.{Position}
use Rattle.recorded.specs.declared.runs.Ran.{Ran}
use Rattle.recorded.specs.Runs.{RunsTo, counted}
use Rattle.recorded.proofs.runs.run_cases.Goals as goal

none_left : (gives : Position → Ran → Type 0) (n : ℕ) (at : Position) (counts : List ℕ) → n ≡ 0 → RunsTo gives n at counts at counts
unfolding RunsTo
none_left gives zero at counts e = (refl, refl)
none_left gives (suc n) at counts e = absurd (omega arith)

one-more : (gives : Position → Ran → Type 0) (n m : ℕ) (at end : Position) (counts counts' after : List ℕ) (r : Ran) → m ≡ suc n → gives at r → counts' ≡ counted r.number r.is_same counts
    → RunsTo gives n r.end counts' end after → RunsTo gives m at counts end after
unfolding RunsTo
one-more gives n zero at end counts counts' after r e h q t = absurd (omega arith)
one-more gives n (suc m) at end counts counts' after r e h q t =
    let z : n ≡ m = omega arith in
    (r, h, subst (λ (k : ℕ). RunsTo gives k r.end (counted r.number r.is_same counts) end after) z (subst (λ (s : List ℕ). RunsTo gives n r.end s end after) q t))

pub loop-k-init : goal.loop-k-init
loop-k-init g c = λ end after t. simp unary_clauses at t

pub loop-k-preserved : goal.loop-k-preserved
loop-k-preserved g c =
    let l = c.loop-k in
    λ end after t. l.invariant end after
    (one-more _ (c.args.cases - (l.k + 1)) (c.args.cases - l.k) l.at end l.counts _ after c.run_case-ran.result (omega arith) c.run_case-ran.ensures c.report.ensures t)

pub returns : goal.returns
returns g c =
    let l = c.loop-k in
    l.invariant l.at l.counts (none_left _ (c.args.cases - l.k) l.at l.counts (omega arith))
