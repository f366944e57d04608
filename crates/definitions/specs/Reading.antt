-- Reading an optional part ("Reading the optional part"): the answer, and all lent memory after it.
use Rattle.std.specs.Prelude.{ℕ, zero, suc, ◌+◌, ◌*◌, ◌-◌, List, [], ◌∷◌, ◌++◌, Bool, ◌&&◌, length, ltb}
use Rattle.std.proofs.Math.Option.{Option, none, some}
use Rattle.definitions.specs.Basic.{pick, Answer, answer, refusal, refuse, refuse_at, unless, over, most_octets}
use Rattle.definitions.specs.Rows.{Row, rows_of, row_at, form, first_bad}
use Rattle.definitions.specs.Tables.{table_of, start_of}
use Rattle.definitions.specs.Length.{header}
use Rattle.definitions.specs.Elements.{Element, Parted, elements, cut_short, parted, elements_of, is_accepted, is_at}
use Rattle.definitions.specs.Logs.{Placed, kept_of, order_of, order_list, or_empty, iei_for}
use Rattle.definitions.specs.Values.{place_width}

-- the four numbers of a place with an accepted element: source 1, start and length of the value, and an IEI. A half octet has no octet
-- before its value, which is its whole octet
unfoldable pub received : List Row → ℕ → ℕ → Element → List ℕ
received t iei k e =
    let h : ℕ = header (form (row_at t k)) in
    1 ∷ (e.at + h) ∷ (length e.octets - h) ∷ iei ∷ []

-- the numbers of a place after reading: those of its accepted element, with the IEI by the entries of the order log, or four times 0
unfoldable pub place_row : List Row → List Placed → List Element → ℕ → List ℕ
place_row t ps [] k = 0 ∷ 0 ∷ 0 ∷ 0 ∷ []
place_row t ps (e ∷ es) k = pick (is_accepted e.verdict && is_at k e) (received t (iei_for t ps k) k e) (place_row t ps es k)

-- n places from place k on
unfoldable pub place_rows_from : List Row → List Placed → List Element → ℕ → ℕ → List ℕ
place_rows_from t ps es k zero = []
place_rows_from t ps es k (suc n) = place_row t ps es k ++ place_rows_from t ps es (suc k) n

unfoldable pub place_rows : List Row → List Element → List ℕ
place_rows t es = place_rows_from t (or_empty (order_list (order_of t es))) es 0 (length t)

-- what is lent to reading
pub record Lent : Type 0 where
  pub rows : List ℕ
  pub kept : List ℕ
  pub order : List ℕ

-- the answer, and what was lent, afterwards
pub record Read : Type 0 where
  pub said : Answer
  pub rows : List ℕ
  pub kept : List ℕ
  pub order : List ℕ

-- a refusal changes nothing lent
abbrev pub unread : Lent → Answer → Read
unread l a = record { said = a; rows = l.rows; kept = l.kept; order = l.order }

-- refusal 1: an unknown element that is cut short, with its start, first octet, octets to the end and octets missing
unfoldable pub cut_of : Parted → Option Answer
cut_of (elements es) = none
cut_of (cut_short a x n m) = some (answer 1 (a ∷ x ∷ n ∷ m ∷ []))

-- the checks of reading, in document 01's order: 4, 3, 2 (1), 1, 2 (2), 2 (3)
unfoldable pub reading_checks : List Row → List ℕ → Lent → Parted → List (Option Answer)
reading_checks t part l p =
    refuse_at 4 (first_bad t)
    ∷ refuse (ltb most_octets (length part)) 3 []
    ∷ refuse (ltb (length l.rows) (place_width * length t)) 2 (1 ∷ [])
    ∷ cut_of p
    ∷ refuse (ltb (length l.kept) (length (kept_of (elements_of p)))) 2 (2 ∷ [])
    ∷ refuse (ltb (length l.order) (length (order_of t (elements_of p)))) 2 (3 ∷ [])
    ∷ []

-- what reading leaves where it is done: the octets used in each log, the rows and both logs, and all else as it was
unfoldable pub read_elements : List Row → Lent → List Element → Read
read_elements t l es =
    record { said = answer 0 (length (kept_of es) ∷ length (order_of t es) ∷ []); rows = over (place_rows t es) l.rows; kept = over (kept_of es) l.kept; order = over (order_of t es) l.order }

-- `decode_optional_ies` by a lent table: start number, option `out_of_sequence`, part, lent memory
unfoldable pub reading : List ℕ → ℕ → Bool → List ℕ → Lent → Read
reading table start option part l =
    let t : List Row = rows_of table in
    let p : Parted = parted t start option part in
    unless (refusal (reading_checks t part l p)) (unread l) (read_elements t l (elements_of p))

-- the same by table number, with that table's start number: refusal 5, checked first, where there is none
unfoldable pub reading_by : ℕ → Bool → List ℕ → Lent → Read
reading_by n option part l =
    elim (table_of n) [
      | none ↦ unread l (answer 5 [])
      | some table ↦ reading table start_of option part l
    ]
