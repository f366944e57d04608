-- `any_bad` looks at a row a turn: the invariant says that none before was bad, so that the rest decides.
use Prim.Native.Nat.{◌-◌}
use mathlib.Core.Path.{◌≡◌}
use mathlib.Core.Bool.{not}
use Rattle.definitions.specs.Basic.{is_none}
use Rattle.definitions.specs.Values.{value_in, good_value, first_from}
use Rattle.values.specs.Rows.{width_of, sources_of}
use Rattle.values.proofs.row.any_bad.Given as goal

abbrev pub invariant-loop-k : goal.invariant-loop-k
invariant-loop-k l =
    is_none (first_from (λ j. not (good_value (sources_of l.received l.set) (value_in (width_of l.with_iei) l.rows j))) l.k (l.n - l.k)) ≡ is_none (first_from (λ j. not (good_value (sources_of l.received l.set) (value_in (width_of l.with_iei) l.rows j))) 0 l.n)
