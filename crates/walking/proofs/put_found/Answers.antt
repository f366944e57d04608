-- `put_found` copies the element behind a known count at the front of what is left of the log, where the output has room.
use Prim.Native.Nat.{ℕ, ◌+◌, ◌-◌, ◌≤◌}
use native.Mathlib.Omega.{arith}
use mathlib.Core.Path.{◌≡◌, refl}
use mathlib.Core.List.{List, [], ◌∷◌}
use lib.ListN.{length, take, drop, length-take, length-drop}
use Rattle.definitions.specs.Logs.{count_at}
use Rattle.definitions.proofs.Logs.{entry_of}
use Rattle.definitions.proofs.LogSteps.{KeptEntry, kept-split, rest_of}
use Rattle.kept.specs.Kept.{count_from}
use Rattle.kept.specs.declared.Count.{Count}
use Rattle.walking.specs.Walks.{next_of, Lays, NextLaid}
use Rattle.walking.specs.declared.Pen.{Pen}
use Rattle.walking.proofs.Laying.{lays-octets, lays-long-piece}
use Rattle.walking.proofs.Elements.{elements-next}
use Rattle.walking.proofs.put_found.Goals as goal

-- the count at the front of what is left, and its element
module _ (kept : List ℕ) (pen : Pen) (f : Count) (e : entry_of (drop pen.kept kept) (count_at (drop pen.kept kept)) ≡ count_from f.value f.took) (h : pen.kept ≤ length kept) where
  split : KeptEntry kept pen.kept (record { value = f.value; took = f.took })
  split = kept-split kept pen.kept h e

  abbrev element : List ℕ
  element = take f.value (drop (pen.kept + f.took) kept)

  long : length element ≡ f.value
  long = let w = split.within in simp (length-take, length-drop) (omega arith)

  -- behind the element, wherever the pen is then
  next : {at : ℕ} {before after : List ℕ} → Lays (element ∷ []) pen.at before at after → NextLaid kept pen before (record { at = at; kept = pen.kept + f.took + f.value; place = pen.place; len = f.value }) after
  unfolding next_of rest_of
  next l =
      let n = elements-next kept pen.kept e in
      let t = split in
      record { lays = rw n l; rest = rw n; within = t.within; further = λ h. omega (arith, t.count); place = refl }

pub overflow_add-start : goal.overflow_add-start
overflow_add-start c = let a = c.args in let w = (split a.kept.now a.pen a.found c.requires.0 c.requires.1).within in omega arith

pub overflow_add-end : goal.overflow_add-end
overflow_add-end c = let a = c.args in let w = (split a.kept.now a.pen a.found c.requires.0 c.requires.1).within in omega arith

pub slice_bounds-put_octets-end-then-output-at : goal.slice_bounds-put_octets-end-then-output-at
slice_bounds-put_octets-end-then-output-at c = let a = c.args in let w = (split a.kept.now a.pen a.found c.requires.0 c.requires.1).within in omega arith

pub returns-then-output-at : goal.returns-then-output-at
returns-then-output-at c =
    let a = c.args in
    let v = a.found.value in
    let s = element a.kept.now a.pen a.found c.requires.0 c.requires.1 in
    let l = long a.kept.now a.pen a.found c.requires.0 c.requires.1 in
    let k = a.pen.kept + a.found.took in
    let z : k + v - k ≡ v = omega arith in
    next a.kept.now a.pen a.found c.requires.0 c.requires.1 (rw l at (lays-octets a.pen.at a.output.now c.requires.2 s (omega (arith, c.if-output-at.true, c.requires.2)) (rw z at c.put_octets.ensures)))

pub returns-else-output-at : goal.returns-else-output-at
returns-else-output-at c =
    let a = c.args in
    let s = element a.kept.now a.pen a.found c.requires.0 c.requires.1 in
    let l = long a.kept.now a.pen a.found c.requires.0 c.requires.1 in
    next a.kept.now a.pen a.found c.requires.0 c.requires.1 (lays-long-piece a.pen.at a.output.now c.requires.2 s (omega (arith, c.if-output-at.false, c.requires.2)))
