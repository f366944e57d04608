-- `named_in` takes an entry a turn: with those of what is left the names are those of the whole log.
-- Each turn by its first octet. The measure is what is left.
use Prim.Native.Nat.{◌-◌}
use mathlib.Core.Path.{◌≡◌}
use lib.ListN.{length, drop}
use Rattle.seen.specs.Seen.{set_of}
use Rattle.unnamed.specs.Named.{named}
use Rattle.unnamed.proofs.named_in.Given as goal

abbrev pub invariant-loop-from : goal.invariant-loop-from
invariant-loop-from l = named l.index 0 l.order ≡ named l.index (set_of l.set) (drop l.from l.order)

abbrev pub decreases-loop-from : goal.decreases-loop-from
decreases-loop-from l = length l.order - l.from
