-- `put_found` stores two numbers, or none where the kind is 0.
-- The two are the front written from the position on.
use Prim.Native.Nat.{◌+◌, ◌≤◌}
use native.Mathlib.Omega.{arith}
use borrow.Author.Tests.{eq-eqb, ne_eqb}
use lib.ListN.{length, length-set}
use mathlib.Core.Path.{refl, sym}
use Rattle.definitions.specs.Basic.{concat}
use Rattle.definitions.proofs.Lists.{over_none, set-two}
use Rattle.findings.specs.Findings.{found_of}
use Rattle.findings.proofs.walk.put_found.Goals as goal
use Rattle.findings.proofs.walk.put_found.Goals.{Else-kind-eq0}

pub returns-then-kind-eq0 : goal.returns-then-kind-eq0
unfolding found_of concat
returns-then-kind-eq0 c = rw (eq-eqb c.args.kind 0 c.if-kind-eq0.true) (omega arith, sym (over_none _ _))

-- room for two numbers, where the kind is one
room : (c : Else-kind-eq0) → c.args.at + 2 ≤ length c.args.findings.now
unfolding found_of concat
room c = rw (ne_eqb c.args.kind 0 c.if-kind-eq0.false) at c.requires.1

pub bounds-findings-at : goal.bounds-findings-at
bounds-findings-at c = let l = room (goal.at.bounds-findings-at c).Else-kind-eq0 in omega arith

pub bounds-findings-at-2 : goal.bounds-findings-at-2
bounds-findings-at-2 c = let l = room (goal.at.bounds-findings-at-2 c).Else-kind-eq0 in simp length-set (omega arith)

pub returns : goal.returns
unfolding found_of concat
returns c = let a = c.args in rw (ne_eqb a.kind 0 c.if-kind-eq0.false) (refl, set-two a.at a.entry a.kind a.findings.now (room (goal.at.returns c).Else-kind-eq0))
