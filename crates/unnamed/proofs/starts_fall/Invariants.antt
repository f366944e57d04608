-- `starts_fall` looks at a place a turn: what is left of the places falls where all of them do.
-- Each turn by the place's source.
use Prim.Native.Nat.{◌-◌}
use mathlib.Core.Path.{◌≡◌}
use Rattle.unnamed.specs.Named.{falls_from}
use Rattle.unnamed.proofs.starts_fall.Given as goal

abbrev pub invariant-loop-k : goal.invariant-loop-k
invariant-loop-k l = falls_from l.rows 0 l.places 0 ≡ falls_from l.rows l.k (l.places - l.k) l.high
