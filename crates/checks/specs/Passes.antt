-- What the checks do row by row, with the IEIs entered in an index.
-- proofs/BadRows.antt and proofs/Steps.antt show that these are the checks of the definitions.
use Rattle.std.specs.Prelude.{ℕ, suc, List, [], ◌∷◌, Bool, ◌&&◌, ◌||◌, not, ltb, leb, eqb}
use Rattle.std.proofs.Math.Option.{Option, none, some}
use Rattle.definitions.specs.Basic.{pick, most_kinds}
use Rattle.definitions.specs.Rows.{Row, ieis, most_places}
use Rattle.definitions.specs.Mandatory.{MandatoryRow, is_half}
use Rattle.indexing.specs.Marks.{enters, mark_of, enter_row}

-- the numbers of a row behind its IEIs: the code and the size of its form, the least and the greatest whole length, the set of kinds
unfoldable pub in_range : ℕ → ℕ → ℕ → ℕ → ℕ → Bool
in_range code size least greatest kinds =
    leb 1 kinds && (leb kinds (most_kinds (eqb code 0))
    && (leb code 3 && ((not (eqb code 1) || leb size 255) && (leb least greatest && leb greatest 65538))))

-- its IEIs: one to four, each good, and free when it is entered
unfoldable pub ieis_pass : ℕ → Row → List ℕ → Bool
ieis_pass k r ix = leb 1 r.count && (leb r.count 4 && enters (eqb r.code 0) (mark_of k) (ieis r) ix)

unfoldable pub passes : ℕ → Row → List ℕ → Bool
passes k r ix = in_range r.code r.size r.least r.greatest r.kinds && ieis_pass k r ix

-- the first bad row from row k on, with the index of the rows before it
unfoldable pub bad_from : ℕ → List ℕ → List Row → Option ℕ
bad_from k ix [] = none
bad_from k ix (r ∷ rs) = pick (ltb k most_places && passes k r ix) (bad_from (suc k) (enter_row k r ix) rs) (some k)

-- ---- mandatory rows

-- the numbers of a row
unfoldable pub plain_in_range : MandatoryRow → Bool
plain_in_range r =
    leb r.code 4 && ((not (eqb r.code 2) || (leb 1 r.size && leb r.size 255))
    && (leb r.least 65537 && ((not (is_half r) || eqb r.least 0)
    && (leb 1 r.kinds && leb r.kinds (most_kinds (is_half r))))))

-- a low half before a high one, a high half after a low one
unfoldable pub paired : Bool → ℕ → ℕ → Bool
paired after_low code next = (not (eqb code 0) || eqb next 1) && (not (eqb code 1) || after_low)
