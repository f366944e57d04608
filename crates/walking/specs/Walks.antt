-- A message walked by its order log: the pieces that its entries, its added places and its kept elements give, by the numbers of a table and an
-- index as they are lent, whatever both logs hold. Each piece is put where there is room for it. Of a message that passes every check of
-- writing they are what writing writes: `all-written` of measured_writing.
use Rattle.std.specs.Prelude.{ℕ, zero, suc, ◌+◌, ◌-◌, ◌≤◌, ◌<◌, ◌%◌, max, ◌≡◌, List, [], ◌∷◌, ◌++◌, ◌&&◌, length, take, drop, leb}
use Rattle.std.proofs.Math.Option.{Option, none, some}
use Rattle.definitions.specs.Basic.{pick, bit, over_at}
use Rattle.definitions.specs.Rows.{Form, form_of, rows_of, place_in}
use Rattle.definitions.specs.Values.{Value, value_at, present, octets_at}
use Rattle.definitions.specs.Logs.{Count, count_at}
use Rattle.definitions.specs.Writing.{encoded}
use Rattle.definitions.proofs.Logs.{entry_of}
use Rattle.definitions.proofs.LogSteps.{rest_of}
use Rattle.rows.specs.Numbers.{numbers_at}
use Rattle.putting.specs.Puts.{writable}
use Rattle.placing.specs.Pieces.{Lent}
use Rattle.walking.specs.declared.Pen.{Pen}

-- ---- the places

-- the element of a place under an IEI; nothing of an absent place, or where its value cannot be written
unfoldable pub element_by : Lent → ℕ → ℕ → List ℕ
element_by m k iei =
    let v : Value = value_at m.rows k in
    let f : Form = form_of (numbers_at m.table k).code (numbers_at m.table k).size in
    pick (present v && writable f v.source iei (octets_at m.octets v)) (encoded f iei (octets_at m.octets v)) []

-- of a place in the set of the added ones, under the octet of its first IEI
unfoldable pub added_piece : Lent → ℕ → ℕ → List ℕ
added_piece m set k = pick (bit k set) (element_by m k ((numbers_at m.table k).first % 256)) []

-- of the n places from k on
unfoldable pub added_by : Lent → ℕ → ℕ → ℕ → List (List ℕ)
added_by m set k zero = []
added_by m set k (suc n) = added_piece m set k ∷ added_by m set (suc k) n

-- ---- the kept log

-- its elements, up to its end or to where it is malformed, by the entry at its front. Each takes an octet or more, so the octets are count enough
unfoldable pub elements_then : List ℕ → (List ℕ → List (List ℕ)) → Option Count → List (List ℕ)
elements_then s rest none = []
elements_then s rest (some c) = take c.value (drop c.took s) ∷ rest (drop c.value (drop c.took s))

unfoldable pub elements_f : ℕ → List ℕ → List (List ℕ)
elements_f zero s = []
elements_f (suc f) s = elements_then s (elements_f f) (entry_of s (count_at s))

-- those from a position on
unfoldable pub elements_from : List ℕ → ℕ → List (List ℕ)
elements_from kept at = elements_f (length (drop at kept)) (drop at kept)

-- the next, if there is one
unfoldable pub next_of : List (List ℕ) → List (List ℕ)
next_of [] = []
next_of (e ∷ es) = e ∷ []

-- the next n, and those behind them
unfoldable pub nexts_of : ℕ → List (List ℕ) → List (List ℕ)
nexts_of zero ks = []
nexts_of (suc n) ks = next_of ks ++ nexts_of n (rest_of ks)

unfoldable pub behind_of : ℕ → List (List ℕ) → List (List ℕ)
behind_of zero ks = ks
behind_of (suc n) ks = behind_of n (rest_of ks)

-- ---- the order log

-- a known entry: the added places below its own from a place on, then its own
unfoldable pub known_by : Lent → List ℕ → ℕ → ℕ → ℕ → List (List ℕ)
known_by m ix set i c = elim (place_in ix i) [ none ↦ [] | some k ↦ added_by m set c (k - c) ++ (element_by m k i ∷ []) ]

-- the place below which every added one is then written
unfoldable pub place_after : List ℕ → ℕ → ℕ → ℕ
place_after ix i c = elim (place_in ix i) [ none ↦ c | some k ↦ max c k ]

-- all that a log gives from a place on, with the kept elements that are left: a 0 and an IEI are a known entry, any other octet takes the
-- next kept element; at the end the added places that are left, then the kept elements
unfoldable pub pieces_by : Lent → List ℕ → ℕ → List ℕ → ℕ → List (List ℕ) → List (List ℕ)
pieces_by m ix set [] c ks = added_by m set c (length (rows_of m.table) - c) ++ ks
pieces_by m ix set (zero ∷ []) c ks = added_by m set c (length (rows_of m.table) - c) ++ ks
pieces_by m ix set (zero ∷ i ∷ o) c ks = known_by m ix set i c ++ pieces_by m ix set o (place_after ix i c) ks
pieces_by m ix set (suc x ∷ o) c ks = next_of ks ++ pieces_by m ix set o c (rest_of ks)

-- ---- what is put

-- a position in a buffer
pub record Laid : Type 0 where
  pub at : ℕ
  pub octets : List ℕ

abbrev pub laid_at : ℕ → List ℕ → Laid
laid_at at octets = record { at = at; octets = octets }

-- a piece put there, where there is room for it
unfoldable pub lay : List ℕ → Laid → Laid
lay s l = pick (leb (l.at + length s) (length l.octets)) (laid_at (l.at + length s) (over_at l.at s l.octets)) l

unfoldable pub laid : List (List ℕ) → Laid → Laid
laid [] l = l
laid (s ∷ ss) l = laid ss (lay s l)

-- pieces put from a position on: the position behind them, and the buffer
pub record Lays (pieces : List (List ℕ)) (at : ℕ) (before : List ℕ) (r : ℕ) (after : List ℕ) : Type 0 where
  pub is : laid_at r after ≡ laid pieces (laid_at at before)

-- behind the next kept element
pub record NextLaid (kept : List ℕ) (p : Pen) (before : List ℕ) (r : Pen) (after : List ℕ) : Type 0 where
  pub lays : Lays (next_of (elements_from kept p.kept)) p.at before r.at after
  pub rest : elements_from kept r.kept ≡ rest_of (elements_from kept p.kept)
  pub within : r.kept ≤ length kept
  pub further : p.kept < length kept → p.kept < r.kept
  pub place : r.place ≡ p.place

-- behind the next n
pub record RunLaid (kept : List ℕ) (n : ℕ) (p : Pen) (before : List ℕ) (r : Pen) (after : List ℕ) : Type 0 where
  pub lays : Lays (nexts_of n (elements_from kept p.kept)) p.at before r.at after
  pub rest : elements_from kept r.kept ≡ behind_of n (elements_from kept p.kept)
  pub within : r.kept ≤ length kept
  pub place : r.place ≡ p.place

-- behind a known entry
pub record KnownLaid (m : Lent) (ix : List ℕ) (set i : ℕ) (p : Pen) (before : List ℕ) (r : Pen) (after : List ℕ) : Type 0 where
  pub lays : Lays (known_by m ix set i p.place) p.at before r.at after
  pub kept : r.kept ≡ p.kept
  pub place : r.place ≡ place_after ix i p.place

-- pieces to be put, and those that are left of them: what is left gives what the whole does
pub record Going (whole : List (List ℕ)) (at : ℕ) (before : List ℕ) (left : List (List ℕ)) (r : ℕ) (after : List ℕ) : Type 0 where
  pub gives : laid left (laid_at r after) ≡ laid whole (laid_at at before)
  pub inside : r ≤ length after
  pub long : length after ≡ length before

-- where a walk is with octets of the order log left
pub record WalkLaid (m : Lent) (ix : List ℕ) (set : ℕ) (order kept before left : List ℕ) (p : Pen) (after : List ℕ) : Type 0 where
  pub going : Going (pieces_by m ix set order 0 (elements_from kept 0)) 0 before (pieces_by m ix set left p.place (elements_from kept p.kept)) p.at after
  pub within : p.kept ≤ length kept
