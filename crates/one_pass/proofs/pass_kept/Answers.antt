-- `pass_kept` copies the element behind the count at the front of what is left of the log, where the array has room.
-- Without a count there the log is malformed.
use Prim.Native.Nat.{ℕ, ◌+◌, ◌-◌}
use native.Mathlib.Omega.{arith}
use mathlib.Core.Path.{◌≡◌, refl, sym, ◌∙◌}
use mathlib.Core.List.{List}
use mathlib.Core.Option.{some}
use lib.ListN.{length, take, drop, length-take, length-drop}
use Rattle.definitions.specs.Logs.{count_at, kept_list}
use Rattle.definitions.proofs.Logs.{entry_of}
use Rattle.definitions.proofs.Lists.{to_end}
use Rattle.definitions.proofs.LogSteps.{KeptEntry, kept-split, kept-stop}
use Rattle.kept.proofs.Counts.{count-is, count-not}
use Rattle.one_pass.specs.Passes.{malformed, too_long}
use Rattle.placing.proofs.Pieces.{put-octets}
use Rattle.one_pass.proofs.pass_kept.Goals as goal
use Rattle.one_pass.proofs.pass_kept.Goals.{In_ok-value}

-- the count at the front of what is left, and its element
found : (c : In_ok-value) → let a = c.args in let s = drop a.pen.kept a.kept.now in entry_of s (count_at s) ≡ some (record { value = c.in_ok-value.field-0.value; took = c.in_ok-value.field-0.took })
found c =
    let a = c.args in
    let s = drop a.pen.kept a.kept.now in
    count-is (entry_of s (count_at s)) (sym c.in_ok-value.was ∙ rw to_end at c.entry_at.ensures)

split : (c : In_ok-value) → let a = c.args in KeptEntry a.kept.now a.pen.kept (record { value = c.in_ok-value.field-0.value; took = c.in_ok-value.field-0.took })
split c = let h = c.requires.0 in kept-split c.args.kept.now c.args.pen.kept (omega arith) (found c)

abbrev element : In_ok-value → List ℕ
element c = take c.in_ok-value.field-0.value (drop (c.args.pen.kept + c.in_ok-value.field-0.took) c.args.kept.now)

long : (c : In_ok-value) → length (element c) ≡ c.in_ok-value.field-0.value
long c = let w = (split c).within in simp (length-take, length-drop) (omega arith)

pub returns-then-out-at : goal.returns-then-out-at
returns-then-out-at c = too_long (element (goal.at.returns-then-out-at c).In_ok-value) (kept_list (drop (c.args.pen.kept + c.in_ok-value.field-0.took + c.in_ok-value.field-0.value) c.args.kept.now)) (split (goal.at.returns-then-out-at c).In_ok-value).splits (let l = long (goal.at.returns-then-out-at c).In_ok-value in omega (arith, c.if-out-at.true, c.requires.1))

pub overflow_add-start : goal.overflow_add-start
overflow_add-start c = let w = (split (goal.at.overflow_add-start c).In_ok-value).within in omega arith

pub overflow_add-end : goal.overflow_add-end
overflow_add-end c = let w = (split (goal.at.overflow_add-end c).In_ok-value).within in omega arith

pub slice_bounds-put_slice-end-2 : goal.slice_bounds-put_slice-end-2
slice_bounds-put_slice-end-2 c = let w = (split (goal.at.slice_bounds-put_slice-end-2 c).In_ok-value).within in omega arith

pub returns : goal.returns
returns c =
    let a = c.args in
    let t = split (goal.at.returns c).In_ok-value in
    let l = long (goal.at.returns c).In_ok-value in
    let k = a.pen.kept + c.in_ok-value.field-0.took in
    let z : k + c.in_ok-value.field-0.value - k ≡ c.in_ok-value.field-0.value = omega arith in
    record {
      element = element (goal.at.returns c).In_ok-value;
      holds = rw l at (put-octets (element (goal.at.returns c).In_ok-value) a.pen.at a.out.now (omega (arith, c.if-out-at.false, c.requires.1)) (rw z at c.put_slice.ensures));
      rest = t.splits;
      inside = t.within;
      further = omega (arith, t.count);
      place = refl;
    }

pub returns-in_err-value : goal.returns-in_err-value
returns-in_err-value c =
    let a = c.args in
    let s = drop a.pen.kept a.kept.now in
    rw c.from_residual.ensures (malformed (kept-stop a.kept.now a.pen.kept c.requires.0 (count-not (entry_of s (count_at s)) (sym c.in_err-value.was ∙ rw to_end at c.entry_at.ensures))))
