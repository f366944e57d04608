-- The places that an order log names, as a set, and the elements of places that a set does not name.
-- By the octets of the log as they are lent, well formed or not, and by the numbers of a table and by an index as they are lent.
use Rattle.std.specs.Prelude.{ℕ, zero, suc, List, [], ◌∷◌, Bool, true, false, not, ◌&&◌, eqb, ltb}
use Rattle.std.proofs.Math.Option.{Option, none, some}
use Rattle.definitions.specs.Basic.{pick, bit}
use Rattle.definitions.specs.Rows.{place_in}
use Rattle.definitions.specs.Values.{Octets, value_at, present, good_value}
use Rattle.rows.specs.Numbers.{numbers_at}
use Rattle.seen.specs.Seen.{including_place}
use Rattle.placing.specs.Pieces.{Lent, joined, piece_by}

-- ---- the places that a log names

-- a set with the place of an IEI in it, if it has one
unfoldable pub with_iei : List ℕ → ℕ → ℕ → ℕ
with_iei ix i set = elim (place_in ix i) [ none ↦ set | some k ↦ including_place k set ]

-- with those of the octets of a log: behind each 00 is an IEI, any other octet is an entry by itself
unfoldable pub named : List ℕ → ℕ → List ℕ → ℕ
named ix set [] = set
named ix set (zero ∷ []) = set
named ix set (zero ∷ i ∷ s) = named ix (with_iei ix i set) s
named ix set (suc x ∷ s) = named ix set s

-- whether one of the n places from k on was received before one that is lower, or before a position
unfoldable pub falls_from : List ℕ → ℕ → ℕ → ℕ → Bool
falls_from rows k zero high = false
falls_from rows k (suc n) high =
    pick (eqb (value_at rows k).source 1) (pick (ltb (value_at rows k).start high) true (falls_from rows (suc k) n (value_at rows k).start)) (falls_from rows (suc k) n high)

-- the places that a log names, where the n places were received in another order than the table's; else none
unfoldable pub names : List ℕ → List ℕ → List ℕ → ℕ → ℕ
names ix rows order n = pick (falls_from rows 0 n 0) (named ix 0 order) 0

-- ---- the places that a set does not name

-- of a place, under its first IEI
unfoldable pub unnamed_piece : Lent → ℕ → ℕ → Option (List ℕ)
unnamed_piece m set k = pick (bit k set) (some []) (piece_by m k (numbers_at m.table k).first)

-- of the n places from k on
unfoldable pub unnamed : Lent → ℕ → ℕ → ℕ → Option (List ℕ)
unnamed m set k zero = some []
unnamed m set k (suc n) = joined (unnamed_piece m set k) (unnamed m set (suc k) n)

-- whether the n rows from k on are absent and well formed
unfoldable pub bare : Octets → List ℕ → ℕ → ℕ → Bool
bare o rows k zero = true
bare o rows k (suc n) = (not (present (value_at rows k)) && good_value o (value_at rows k)) && bare o rows (suc k) n
