-- Cases that are run one after the other, and counted.
use Rattle.std.specs.Prelude.{◌≡◌, ℕ, zero, suc, List, Bool}
use Rattle.definitions.specs.Basic.{pick}
use Rattle.recorded.specs.declared.Position.{Position}
use Rattle.recorded.specs.declared.runs.Ran.{Ran}
use Rattle.recorded.specs.Lent.{raised}

-- the counts with a case of that number, whose answer is the recorded one or another
abbrev pub counted : ℕ → Bool → List ℕ → List ℕ
counted number same counts = pick same (raised 256 (raised number counts)) (raised number counts)

-- n cases, each from where the one before it ends: where the last ends, and the counts with all of them
unfoldable pub RunsTo : (Position → Ran → Type 0) → ℕ → Position → List ℕ → Position → List ℕ → Type 0
RunsTo gives zero at counts end counts' = (at ≡ end) × (counts ≡ counts')
RunsTo gives (suc n) at counts end counts' = (r : Ran) × gives at r × RunsTo gives n r.end (counted r.number r.is_same counts) end counts'
