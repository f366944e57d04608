-- `put_run` copies an element a turn: the invariant says that what is left of the next n gives the buffer of all of them.
use Prim.Native.Nat.{◌-◌, ◌≤◌}
use mathlib.Core.Path.{◌≡◌}
use lib.ListN.{length}
use Rattle.walking.specs.Walks.{elements_from, nexts_of, behind_of, Going}
use Rattle.walking.proofs.put_run.Given as goal

abbrev pub invariant-loop : goal.invariant-loop
invariant-loop l =
    (l.p.kept ≤ length l.kept) × Going (nexts_of l.n (elements_from l.kept l.initial.p.kept)) l.initial.p.at l.initial.output (nexts_of (l.n - l.counter) (elements_from l.kept l.p.kept)) l.p.at l.output
    × (behind_of (l.n - l.counter) (elements_from l.kept l.p.kept) ≡ behind_of l.n (elements_from l.kept l.initial.p.kept)) × (l.p.place ≡ l.initial.p.place)
