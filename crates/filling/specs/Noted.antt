-- Reading by a table and any index, where the order log has an entry for each element; by the table's own index it is reading, of a part
-- of which the table does not say all.
use Rattle.std.specs.Prelude.{ℕ, ◌*◌, ◌≤◌, ◌≡◌, List, [], ◌∷◌, Bool, false, length, replicate, ltb, Ok, Err}
use Rattle.std.proofs.Math.Option.{Option}
use Rattle.definitions.specs.Basic.{Answer, answer, refusal, refuse, unless, over, most_octets}
use Rattle.definitions.specs.Rows.{Row, rows_of}
use Rattle.definitions.specs.Elements.{Element, Parted, elements, parted, elements_of}
use Rattle.definitions.specs.Logs.{kept_of, entries_of}
use Rattle.definitions.specs.Values.{place_width}
use Rattle.definitions.specs.Reading.{Lent, Read, unread, cut_of}
use Rattle.by_index.specs.ByIndex.{rows_by}
use Rattle.plain_reading.specs.Entered.{entered_all}
use Rattle.plain_reading.specs.Plains.{plain_in}
use Rattle.filling.specs.Fills.{ReadyBy}
use Rattle.elements.specs.declared.walk.Tally.{Tally}
use Rattle.filling.specs.Decodes.{Decoded, decoded_as, Reads}

-- the checks of reading but that of the table, for n numbers of rows and an entry for each element
unfoldable pub noted_checks : ℕ → List ℕ → Lent → Parted → List (Option Answer)
noted_checks n part l p =
    refuse (ltb most_octets (length part)) 3 []
    ∷ refuse (ltb (length l.rows) n) 2 (1 ∷ [])
    ∷ cut_of p
    ∷ refuse (ltb (length l.kept) (length (kept_of (elements_of p)))) 2 (2 ∷ [])
    ∷ refuse (ltb (length l.order) (length (entries_of (elements_of p)))) 2 (3 ∷ [])
    ∷ []

-- what is left where it is done: the rows cleared and each element entered, both logs, and all else as it was
unfoldable pub noted_elements : List Row → ℕ → Lent → List Element → Read
noted_elements t n l es =
    record { said = answer 0 (length (kept_of es) ∷ length (entries_of es) ∷ []); rows = entered_all t es (over (replicate n 0) l.rows); kept = over (kept_of es) l.kept; order = over (entries_of es) l.order }

unfoldable pub noted : List ℕ → List ℕ → ℕ → Bool → List ℕ → Lent → Read
noted table index start option part l =
    let t : List Row = rows_by table index in
    let n : ℕ = place_width * length (rows_of table) in
    let p : Parted = parted t start option part in
    unless (refusal (noted_checks n part l p)) (unread l) (noted_elements t n l (elements_of p))

-- a part that is not too long, and so many numbers for the rows of a table
pub record Fits (table part : List ℕ) (n : ℕ) : Type 0 where
  pub short : length part ≤ 65535
  pub room : 4 * length (rows_of table) ≤ n

-- a part that nothing refuses: its elements can be entered, and what is then to be left is known
pub record Allowed (table index : List ℕ) (start : ℕ) (option : Bool) (part : List ℕ) (l : Lent) (t : Tally) : Type 0 where
  pub ready : ReadyBy table index start option part l.rows l.kept l.order
  pub decodes : parted (rows_by table index) start option part ≡ elements (elements_of (parted (rows_by table index) start option part))
  pub is : noted table index start option part l ≡ noted_elements (rows_by table index) (4 * length (rows_of table)) l (elements_of (parted (rows_by table index) start option part))
  pub answers : decoded_as (Ok t) ≡ (noted table index start option part l).said

-- what is known of a part before anything is written: that nothing refuses it, or all that its refusal leaves
unfoldable pub Judged : List ℕ → List ℕ → ℕ → Bool → List ℕ → Lent → Decoded → Type 0
Judged table index start option part l (Ok t) = Allowed table index start option part l t
Judged table index start option part l (Err e) = Reads (noted table index start option part l) (Err e) l.rows l.kept l.order

-- a part of which the table does not say all, if it is not too long and its rows have room
abbrev pub Unplain : List Row → ℕ → Bool → List ℕ → List ℕ → Type 0
Unplain t start option part rows = length part ≤ 65535 → 4 * length t ≤ length rows → plain_in t 0 (parted t start option part) ≡ false
