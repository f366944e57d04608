-- The number that a program ends with.
use Rattle.std.specs.Prelude.{ℕ}
use Rattle.streams.specs.declared.Status.{Status}

abbrev pub status_number : Status → ℕ
status_number Status.Done = 0
status_number Status.Refused = 1
status_number Status.Failed = 2
