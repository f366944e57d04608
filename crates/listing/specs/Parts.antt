-- A part by a table, with the option on or off: its steps, whether it is cut short, and the answer of a listing.
use Rattle.std.specs.Prelude.{ℕ, ◌≤◌, ◌≡◌, List, [], Bool, true, length, drop, leb, ltb, Option as Answered, Result, Ok, Err, is_err}
use Rattle.std.proofs.Math.Option.{none, some}
use Rattle.definitions.specs.Basic.{pick, over}
use Rattle.definitions.specs.Rows.{rows_of, first_bad}
use Rattle.definitions.specs.Tables.{table_of, start_of}
use Rattle.definitions.specs.Elements.{Parted, elements, cut_short, step, parted}
use Rattle.definitions.specs.Listing.{most_listed, listing_by}
use Rattle.elements.specs.Steps.{step_of, met_of, cut_of}
use Rattle.elements.specs.declared.element.State.{State}
use Rattle.elements.specs.declared.element.Element.{Element}
use Rattle.elements.specs.declared.element.Cut.{Cut}
use Rattle.listing.specs.declared.NoRoom.{NoRoom}

-- a table that passes its check, and a part that is listed
pub record Passing (table part : List ℕ) : Type 0 where
  pub passes : first_bad (rows_of table) ≡ none
  pub short : length part ≤ most_listed

-- what stands at a state's position
abbrev pub step_at : List ℕ → Bool → List ℕ → State → Result (Answered (Element × State)) Cut
step_at table option part s = step_of (step (rows_of table) start_of option (met_of s) s.at (drop s.at part))

abbrev pub parted_by : List ℕ → Bool → List ℕ → Parted
parted_by table option part = parted (rows_of table) start_of option part

-- whether a part is read whole, or is cut short
abbrev pub whole_of : Parted → Result Unit Cut
whole_of (elements es) = Ok tt
whole_of (cut_short a x n m) = Err (cut_of a x n m)

-- the listing by table number; none where no table has the number
unfoldable pub listing_of : ℕ → Bool → List ℕ → List ℕ
listing_of number option part = elim (table_of number) [ none ↦ [] | some table ↦ listing_by table option part ]

-- the answer: the octets of the text, written where there is room for all of it
abbrev pub listed_as : List ℕ → List ℕ → Result ℕ NoRoom
listed_as text out = pick (leb (length text) (length out)) (Ok (length text)) (Err (record { need = length text }))

-- the lent buffer then
abbrev pub out_as : List ℕ → List ℕ → List ℕ
out_as text out = pick (leb (length text) (length out)) (over text out) out

-- whether a part is refused: too long, or cut short
abbrev pub is_refused : List ℕ → Bool → List ℕ → Bool
is_refused table option part = pick (ltb most_listed (length part)) true (is_err (whole_of (parted_by table option part)))

-- by table number: every part where no table has it
unfoldable pub is_refused_of : ℕ → Bool → List ℕ → Bool
is_refused_of number option part = elim (table_of number) [ none ↦ true | some table ↦ is_refused table option part ]
