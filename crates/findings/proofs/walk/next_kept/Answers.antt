-- `next_kept` finds the count at the front of what is left of the log, and the element behind it.
-- Without a count there the log is at its end, and nothing is left.
use Prim.Native.Nat.{ℕ, ◌+◌}
use native.Mathlib.Nat.{add-zero}
use native.Mathlib.Omega.{arith}
use mathlib.Core.Path.{◌≡◌, ap, ◌∙◌}
use mathlib.Core.Option.{some}
use lib.ListN.{get_or, take, drop}
use lib.Seq.{get_or-take, get_or-drop}
use Rattle.definitions.specs.Logs.{count_at}
use Rattle.definitions.proofs.Logs.{entry_of}
use Rattle.definitions.proofs.Lists.{to_end}
use Rattle.definitions.proofs.LogSteps.{KeptEntry, kept-split, kept_next, kept-over, kept-none}
use Rattle.kept.proofs.Counts.{count-is, count-not}
use Rattle.findings.proofs.walk.next_kept.Goals as goal
use Rattle.findings.proofs.walk.next_kept.Goals.{In_ok-count}

-- the count at the front of what is left
found : (c : In_ok-count) → let a = c.args in let s = drop a.at a.kept.now in entry_of s (count_at s) ≡ some (record { value = c.in_ok-count.count.value; took = c.in_ok-count.count.took })
found c =
    let a = c.args in
    let s = drop a.at a.kept.now in
    count-is (entry_of s (count_at s)) (rw to_end at c.in_ok-count.ensures)

split : (c : In_ok-count) → let a = c.args in KeptEntry a.kept.now a.at (record { value = c.in_ok-count.count.value; took = c.in_ok-count.count.took })
split c = let a = c.args in kept-split a.kept.now a.at c.requires.inside (found c)

pub overflow_add-start : goal.overflow_add-start
overflow_add-start c = let s = split (goal.at.overflow_add-start c).In_ok-count in omega (arith, s.within)

pub bounds-kept-start : goal.bounds-kept-start
bounds-kept-start c = let s = split (goal.at.bounds-kept-start c).In_ok-count in omega (arith, s.within, s.octet)

pub overflow_add-result : goal.overflow_add-result
overflow_add-result c = let s = split (goal.at.overflow_add-result c).In_ok-count in omega (arith, s.within)

pub returns : goal.returns
returns c =
    let a = c.args in
    let start : ℕ = a.at + c.in_ok-count.count.took in
    let value : ℕ = c.in_ok-count.count.value in
    let n = kept_next a.kept.now a.at c.requires (found (goal.at.returns c).In_ok-count) in
    record {
      element = take value (drop start a.kept.now);
      first = get_or-take value (drop start a.kept.now) 0 0 (split (goal.at.returns c).In_ok-count).octet ∙ get_or-drop start a.kept.now 0 0 ∙ ap (λ (k : ℕ). get_or a.kept.now k 0) (add-zero start);
      splits = n.0;
      formed = n.1;
    }

pub returns-in_err-count : goal.returns-in_err-count
returns-in_err-count c =
    let a = c.args in
    let s = drop a.at a.kept.now in
    let e = count-not (entry_of s (count_at s)) (rw to_end at c.in_err-count.ensures) in
    let k = c.requires in
    rw c.from_residual.ensures (kept-over a.kept.now a.at k (kept-none a.kept.now a.at k e))
