-- Which messages are written in one pass, and what such a pass is by the definition of writing.
use Rattle.std.specs.Prelude.{ℕ, ◌*◌, ◌≡◌, List, Bool, ◌&&◌, not, length, leb, Option as Answered, Some, None, Ok}
use Rattle.std.proofs.Math.Option.{Option, none}
use Rattle.definitions.specs.Basic.{pick, Used, content, too_long, most_octets, most_log}
use Rattle.definitions.specs.Rows.{rows_of}
use Rattle.definitions.specs.Writing.{Wrote}
use Rattle.placing.specs.Pieces.{lent_of, WroteBy, capacity}
use Rattle.one_pass.specs.Passes.{passed_by}
use Rattle.measured_writing.specs.Encodes.{Encodes}

-- the most received octets, and octets of the kept log, of a message that a pass is tried with
abbrev pub most_passed : ℕ
most_passed = 512

-- whether it is tried: short, within all limits, and with a row for each place
unfoldable pub passable : List ℕ → List ℕ → List ℕ → Used → Used → Used → Bool
passable table rows received set order kept =
    leb (length received) most_passed
    && (not (too_long most_passed kept)
    && (not (too_long most_octets set) && (not (too_long most_log order) && leb (4 * length (rows_of table)) (length rows))))

-- what a pass by any table and any index writes it as; none of one that it is not tried with
unfoldable pub shortly : List ℕ → List ℕ → List ℕ → List ℕ → Used → Used → Used → Option (List ℕ)
shortly table entries rows received set order kept =
    pick (passable table rows received set order kept) (passed_by (lent_of table rows received (content set)) entries (content order) (content kept)) none

-- written so, or not at all
abbrev pub WroteShort : List ℕ → List ℕ → List ℕ → List ℕ → Used → Used → Used → List ℕ → Answered ℕ → List ℕ → Type 0
WroteShort table entries rows received set order kept before r after =
    WroteBy (capacity (length (rows_of table)) (length (content kept))) (shortly table entries rows received set order kept) before r after

-- a pass that is a writing where it reaches the end, and else writes nothing
pub record Plainly (w : Wrote) (r : Answered ℕ) (before after : List ℕ) : Type 0 where
  pub done : (n : ℕ) → r ≡ Some n → Encodes w (Ok n) after
  pub not_done : r ≡ None → after ≡ before
