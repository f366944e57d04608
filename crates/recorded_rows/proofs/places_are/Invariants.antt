-- What is left of the rows are the recorded ones where all of them are.
use Rattle.std.proofs.Common.{◌≡◌, ◌-◌}
use Rattle.recorded.specs.Format.{after}
use Rattle.recorded_rows.specs.Places.{places_from}
use Rattle.recorded_rows.proofs.places_are.Given as goal

abbrev pub invariant-loop-k : goal.invariant-loop-k
invariant-loop-k l =
    (l.place.list.now ≡ l.places.list.now)
    × (places_from l.places.list.now l.end.at l.rows l.n (after l.places.at 1) 0 0 ≡ places_from l.places.list.now l.end.at l.rows (l.n - l.k) l.place.at l.row_at l.k)
