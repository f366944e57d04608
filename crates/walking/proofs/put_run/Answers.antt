-- `put_run` copies an element a turn: the invariant says that what is left of the next n gives the buffer of all of them.
use Prim.Native.Nat.{ℕ, ◌+◌, ◌-◌}
use native.Mathlib.Omega.{arith}
use mathlib.Core.Path.{◌≡◌, refl, ap, sym, ◌∙◌}
use Rattle.definitions.proofs.LogSteps.{rest_of}
use Rattle.walking.specs.Walks.{elements_from, next_of, nexts_of, behind_of}
use Rattle.walking.proofs.Laying.{going-begun, going-as, going_on, going_end}
use Rattle.walking.proofs.Elements.{elements-over}
use Rattle.walking.proofs.Runs.{nexts-turn, behind-turn, nexts-none}
use Rattle.walking.proofs.put_run.Goals as goal

pub loop-init : goal.loop-init
loop-init c =
    let n = c.args.n in
    let ks = elements_from c.args.kept.now c.args.pen.kept in
    let z : n ≡ n - 0 = omega arith in
    (c.requires.0, going-as (ap (λ (k : ℕ). nexts_of k ks) z) (going-begun c.requires.1), ap (λ (k : ℕ). behind_of k ks) (sym z), refl)

-- where no element is left
pub shape_of-output-then-p-kept : goal.shape_of-output-then-p-kept
shape_of-output-then-p-kept c = c.loop.invariant.1.long

pub returns-then-p-kept : goal.returns-then-p-kept
returns-then-p-kept c =
    let l = c.loop in
    let e = elements-over c.args.kept.now l.p.kept c.if-p-kept.true in
    let z = nexts-none (c.args.n - l.counter) in
    record { lays = going_end (going-as (rw e z.0) l.invariant.1); rest = e ∙ sym z.1 ∙ ap (behind_of (c.args.n - l.counter)) (sym e) ∙ l.invariant.2; within = l.invariant.0; place = l.invariant.3 }

pub put_kept-p-requires : goal.put_kept-p-requires
put_kept-p-requires c = let l = c.loop in (l.invariant.0, l.invariant.1.inside)

pub loop-preserved : goal.loop-preserved
loop-preserved c =
    let l = c.loop in
    let n = c.args.n in
    let ks = elements_from c.args.kept.now l.p.kept in
    let u = c.put_kept-p.ensures in (
      u.within,
      going-as (ap (nexts_of (n - (l.counter + 1))) (sym u.rest)) (going_on (next_of ks) (nexts_of (n - (l.counter + 1)) (rest_of ks)) (going-as (nexts-turn n l.counter (omega arith) ks) l.invariant.1) u.lays),
      ap (behind_of (n - (l.counter + 1))) u.rest ∙ sym (behind-turn n l.counter (omega arith) ks) ∙ l.invariant.2,
      u.place ∙ l.invariant.3,
    )

pub shape_of-output : goal.shape_of-output
shape_of-output c = c.loop.invariant.1.long

pub returns : goal.returns
unfolding nexts_of behind_of
returns c =
    let l = c.loop in
    let ks = elements_from c.args.kept.now l.p.kept in
    let z : c.args.n - l.counter ≡ 0 = omega arith in
    record {
      lays = going_end (going-as (ap (λ (k : ℕ). nexts_of k ks) z) l.invariant.1);
      rest = sym (ap (λ (k : ℕ). behind_of k ks) z) ∙ l.invariant.2;
      within = l.invariant.0;
      place = l.invariant.3;
    }
