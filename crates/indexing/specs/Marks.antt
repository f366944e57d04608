-- What the code does row by row: each IEI of a row is entered in an index, where its entry is free; 255 is a free one.
-- proofs/Marking.antt shows that this is the index of the definitions.
use Rattle.std.specs.Prelude.{ℕ, suc, min, List, [], ◌∷◌, Bool, true, ◌&&◌, get_or, set, replicate, eqb}
use Rattle.definitions.specs.Basic.{pick}
use Rattle.definitions.specs.Rows.{Row, ieis, good_iei, no_place}

-- an index with nothing entered
abbrev pub blank : List ℕ
blank = replicate 256 no_place

-- an IEI over 255 has no entry, and is not free
abbrev pub free : List ℕ → ℕ → Bool
free ix iei = eqb (get_or ix iei 0) no_place

-- an IEI entered with a mark, where it is free
unfoldable pub enter : ℕ → ℕ → List ℕ → List ℕ
enter mark iei ix = pick (free ix iei) (set ix iei mark) ix

unfoldable pub enter_all : ℕ → List ℕ → List ℕ → List ℕ
enter_all mark [] ix = ix
enter_all mark (i ∷ is) ix = enter_all mark is (enter mark i ix)

-- whether each of them is good, and free when it is entered
unfoldable pub enters : Bool → ℕ → List ℕ → List ℕ → Bool
enters h mark [] ix = true
enters h mark (i ∷ is) ix = (good_iei h i && free ix i) && enters h mark is (enter mark i ix)

-- the mark of a place: no place from 255 on has one
abbrev pub mark_of : ℕ → ℕ
mark_of k = min no_place k

abbrev pub enter_row : ℕ → Row → List ℕ → List ℕ
enter_row k r ix = enter_all (mark_of k) (ieis r) ix

-- the index with the rows from row k on
unfoldable pub indexed : ℕ → List ℕ → List Row → List ℕ
indexed k ix [] = ix
indexed k ix (r ∷ rs) = indexed (suc k) (enter_row k r ix) rs
