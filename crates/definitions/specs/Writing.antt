-- "Writing" an optional part from its place rows and the two logs.
use Rattle.std.specs.Prelude.{ℕ, zero, suc, ◌+◌, ◌*◌, ◌/◌, ◌%◌, List, [], ◌∷◌, ◌++◌, ◌&&◌, ◌||◌, not, length, get_or, ltb}
use Rattle.std.proofs.Math.Option.{Option, none, some}
use Rattle.definitions.specs.Basic.{pick, is_none, among, concat, Answer, answer, refusal, refuse, refuse_at, unless, Used, content, too_long, most_log, over}
use Rattle.definitions.specs.Rows.{Row, Form, half, fixed, tlv, tlv-e, rows_of, row_at, form, place_of, first_iei, first_bad}
use Rattle.definitions.specs.Tables.{table_of}
use Rattle.definitions.specs.Logs.{Placed, known_iei, not_known, ignored, kept_list, order_list, or_empty}
use Rattle.definitions.specs.Values.{Octets, Value, place_width, value_at, present, octets_at, first_from, bad_rows, apart, unfit_at, values_too_long}

-- an element: its IEI, its length field, its value; a half octet in the octet of its IEI
unfoldable pub encoded : Form → ℕ → List ℕ → List ℕ
encoded half iei s = (iei + get_or s 0 0 % 16) ∷ []
encoded (fixed n) iei s = iei ∷ s
encoded tlv iei s = iei ∷ length s ∷ s
encoded tlv-e iei s = iei ∷ (length s / 256) ∷ (length s % 256) ∷ s

-- what is written: the places of a table, their rows, and the octets of their values
pub record Filled : Type 0 where
  pub table : List Row
  pub rows : List ℕ
  pub octets : Octets

-- a place's element under an IEI, if the place is present
unfoldable pub element_at : Filled → ℕ → ℕ → List ℕ
element_at m k iei =
    let v : Value = value_at m.rows k in
    pick (present v) (encoded (form (row_at m.table k)) iei (octets_at m.octets v)) []

-- the places of the IEIs in an order log
unfoldable pub logged : List Row → List Placed → List ℕ
logged t [] = []
logged t (known_iei i ∷ ps) = elim (place_of t i) [ none ↦ logged t ps | some k ↦ k ∷ logged t ps ]
logged t (not_known ∷ ps) = logged t ps
logged t (ignored r ∷ ps) = logged t ps

-- the added places among the n from k on, ascending: present, but not in the order log
unfoldable pub added_from : Filled → List ℕ → ℕ → ℕ → List ℕ
added_from m js k zero = []
added_from m js k (suc n) = pick (present (value_at m.rows k) && not (among k js)) (k ∷ added_from m js (suc k) n) (added_from m js (suc k) n)

unfoldable pub below : ℕ → List ℕ → List ℕ
below k [] = []
below k (j ∷ js) = pick (ltb j k) (j ∷ below k js) (below k js)

unfoldable pub not_below : ℕ → List ℕ → List ℕ
not_below k [] = []
not_below k (j ∷ js) = pick (ltb j k) (not_below k js) (j ∷ not_below k js)

-- the elements of added places, each under its first IEI
unfoldable pub firsts : Filled → List ℕ → List ℕ
firsts m [] = []
firsts m (k ∷ ks) = element_at m k (first_iei m.table k) ++ firsts m ks

-- the walk: before a known entry with a place the added ones of lower place, then its element under the logged IEI; without
-- a place nothing; for any other entry the next kept element, if any. At the end the remaining added ones, then the kept
unfoldable pub walked : Filled → List Placed → List ℕ → List (List ℕ) → List ℕ
walked m [] added kept = firsts m added ++ concat kept
walked m (known_iei i ∷ ps) added kept =
    elim (place_of m.table i) [
      | none ↦ walked m ps added kept
      | some k ↦ firsts m (below k added) ++ (element_at m k i ++ walked m ps (not_below k added) kept)
    ]
walked m (not_known ∷ ps) added [] = walked m ps added []
walked m (not_known ∷ ps) added (e ∷ kept) = e ++ walked m ps added kept
walked m (ignored r ∷ ps) added [] = walked m ps added []
walked m (ignored r ∷ ps) added (e ∷ kept) = e ++ walked m ps added kept

unfoldable pub written : Filled → List Placed → List (List ℕ) → List ℕ
written m ps kept = walked m ps (added_from m (logged m.table ps) 0 (length m.table)) kept

-- the lowest place whose value does not fit its form
unfoldable pub unfit : List Row → Octets → List ℕ → Option ℕ
unfit t o rows = first_from (unfit_at t o rows) 0 (length t)

-- what is handed to writing besides the output: the rows of the table, place rows, received octets, set octets, both logs
pub record Message : Type 0 where
  pub table : List Row
  pub rows : List ℕ
  pub received : List ℕ
  pub set : Used
  pub order : Used
  pub kept : Used

unfoldable pub octets_in : Message → Octets
octets_in m = record { received = m.received; set = content m.set }

-- all that a message is written as
unfoldable pub octets_for : Message → List ℕ
octets_for m =
    written (record { table = m.table; rows = m.rows; octets = octets_in m }) (or_empty (order_list (content m.order)))
    (or_empty (kept_list (content m.kept)))

-- the checks of writing, in document 01's order: 4, 3, 2 (1), 11 (1), 11 (2), 11 (3), also where a row disagrees with the order log, 10, 12
-- with the output needed
unfoldable pub writing_checks : Message → List ℕ → List (Option Answer)
writing_checks m output =
    let places : ℕ = length m.table in
    let need : ℕ = length (octets_for m) in
    refuse_at 4 (first_bad m.table)
    ∷ refuse (values_too_long m.received m.set || (too_long most_log m.order || too_long most_log m.kept)) 3 []
    ∷ refuse (ltb (length m.rows) (place_width * places)) 2 (1 ∷ [])
    ∷ refuse (is_none (order_list (content m.order))) 11 (1 ∷ [])
    ∷ refuse (is_none (kept_list (content m.kept))) 11 (2 ∷ [])
    ∷ refuse (bad_rows place_width (octets_in m) m.rows places || apart m.table (or_empty (order_list (content m.order))) m.rows) 11 (3 ∷ [])
    ∷ refuse_at 10 (unfit m.table (octets_in m) m.rows)
    ∷ refuse (ltb (length output) need) 12 (need ∷ [])
    ∷ []

-- the answer, and the lent output afterwards
pub record Wrote : Type 0 where
  pub said : Answer
  pub output : List ℕ

-- `encode_optional_ies`
unfoldable pub writing : List ℕ → List ℕ → List ℕ → Used → Used → Used → List ℕ → Wrote
writing table rows received set order kept output =
    let m : Message = record { table = rows_of table; rows = rows; received = received; set = set; order = order; kept = kept } in
    unless (refusal (writing_checks m output)) (λ a. record { said = a; output = output })
    (record { said = answer 0 (length (octets_for m) ∷ []); output = over (octets_for m) output })

-- the same by table number: refusal 5, checked first, where there is none
unfoldable pub writing_by : ℕ → List ℕ → List ℕ → Used → Used → Used → List ℕ → Wrote
writing_by n rows received set order kept output =
    elim (table_of n) [
      | none ↦ record { said = answer 5 []; output = output }
      | some table ↦ writing table rows received set order kept output
    ]
