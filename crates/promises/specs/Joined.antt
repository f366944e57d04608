-- Elements join: the elements of a part, one after the other, are the part.
use Rattle.std.specs.Prelude.{ℕ, ◌+◌, ◌≤◌, ◌≡◌, List, [], ◌∷◌, ◌++◌, Bool, length}
use Rattle.definitions.specs.Rows.{Row}
use Rattle.definitions.specs.Elements.{Element, elements, parted}

-- the octets of elements, one after the other
unfoldable pub joined : List Element → List ℕ
joined [] = []
joined (e ∷ es) = e.octets ++ joined es

-- from a position on, each starts where the one before ended, and has at least one octet
unfoldable pub Follow : ℕ → List Element → Type 0
Follow at [] = Unit
Follow at (e ∷ es) = (e.at ≡ at) × (1 ≤ length e.octets) × Follow (at + length e.octets) es

-- for every table, start number, option and part that decodes
abbrev pub ElementsJoin : Type 0
ElementsJoin =
    (t : List Row) (start : ℕ) (option : Bool) (part : List ℕ) (es : List Element) → parted t start option part ≡ elements es
    → (joined es ≡ part) × Follow 0 es
