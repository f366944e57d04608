-- `rest_apart` judges a row a turn: the invariant says that none before disagreed, so that the rest decides.
-- What is left from a row on decides as all do.
use Prim.Native.Nat.{◌-◌, ◌≤◌}
use mathlib.Core.Path.{◌≡◌}
use lib.ListN.{length}
use Rattle.definitions.specs.Rows.{rows_of, first_iei}
use Rattle.definitions.specs.Values.{first_from}
use Rattle.seen.specs.Seen.{set_of}
use Rattle.agreement.specs.Agreed.{apart_by}
use Rattle.edits.proofs.log.rest_apart.Given as goal

abbrev pub invariant-loop-k : goal.invariant-loop-k
invariant-loop-k l = (l.k-end ≡ length (rows_of l.table)) × (l.k ≤ l.k-end) × (first_from (λ j. apart_by l.rows (set_of l.seen) j (first_iei (rows_of l.table) j)) l.k (l.k-end - l.k) ≡ first_from (λ j. apart_by l.rows (set_of l.seen) j (first_iei (rows_of l.table) j)) 0 l.k-end)
