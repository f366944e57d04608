-- What nas-check prints, by table number (document 02, item 8).
use Rattle.std.specs.Prelude.{ℕ, ◌≤◌, ◌≡◌, List, [], ◌∷◌, ◌++◌, Bool, false, length, ltb, eqb, Result, Ok, Err}
use Rattle.std.proofs.Math.Option.{none, some}
use Rattle.definitions.specs.Basic.{pick, most_octets, Answer, answer}
use Rattle.definitions.specs.Rows.{Row, rows_of, first_bad}
use Rattle.definitions.specs.Tables.{table_of, start_of}
use Rattle.definitions.specs.Elements.{Element, Parted, elements, cut_short, parted, elements_of}
use Rattle.definitions.specs.Listing.{ascii, decimal, newline, line, listed, most_listed}
use Rattle.definitions.specs.Checking.{offender, checking_by}
use Rattle.checking.specs.declared.PartError.{PartError}
use Rattle.wording.specs.Told.{refuses}

-- the line of the listing of the element that starts at a position
unfoldable pub line_at : ℕ → List Element → List ℕ
line_at at [] = []
line_at at (e ∷ es) = pick (eqb e.at at) (line e) (line_at at es)

-- accepted; or the number and the start of the first offender, and its line of the listing; of a part that is cut short, nas-list's line
unfoldable pub check_line : List Row → Parted → List ℕ
check_line t (elements es) =
    elim (offender t 0 es) [
      | none ↦ ascii "accepted" ++ newline
      | some at ↦ (ascii "refused 29 at " ++ (decimal at ++ newline)) ++ line_at at es
    ]
check_line t (cut_short a x k m) = listed 0 (cut_short a x k m)

-- over 4,096 octets, too long; nothing where no table has the number
unfoldable pub check_text : ℕ → List ℕ → List ℕ
check_text number part =
    pick (ltb most_listed (length part)) (ascii "too long" ++ newline) (elim (table_of number) [
      | none ↦ []
      | some table ↦ check_line (rows_of table) (parted (rows_of table) start_of false part)
    ])

-- the answer that is told, 3 over 4,096 octets, and whether it is a refusal
unfoldable pub check_telling : ℕ → List ℕ → Answer
check_telling number part = pick (ltb most_listed (length part)) (answer 3 []) (checking_by number part)

abbrev pub check_refused : ℕ → List ℕ → Bool
check_refused number part = refuses (check_telling number part)

-- the line of the listing by table number, with the option off
unfoldable pub line_by : ℕ → List ℕ → ℕ → List ℕ
line_by number part at = elim (table_of number) [ none ↦ [] | some table ↦ line_at at (elements_of (parted (rows_of table) start_of false part)) ]

-- the text of an answer
abbrev pub check_said : ℕ → List ℕ → Result Unit PartError → List ℕ
check_said number part (Ok x) = ascii "accepted" ++ newline
check_said number part (Err (PartError.Offends at)) = (ascii "refused 29 at " ++ (decimal at ++ newline)) ++ line_by number part at
check_said number part (Err (PartError.CutShort c)) = listed 0 (cut_short c.start c.first c.left c.missing)
check_said number part (Err PartError.TooLong) = ascii "too long" ++ newline
check_said number part (Err (PartError.BadTable k)) = []
check_said number part (Err PartError.NoTable) = []

-- a table that passes its check, and a part within the limit of reading that it reads whole, with the option off
pub record ReadWhole (table part : List ℕ) : Type 0 where
  pub passes : first_bad (rows_of table) ≡ none
  pub short : length part ≤ most_octets
  pub found : List Element
  pub reads : parted (rows_of table) start_of false part ≡ elements found
