-- A text of hex digits: two an octet, of both cases, with blanks between octets.
use Rattle.std.specs.Prelude.{ℕ, suc, ◌+◌, ◌*◌, ◌-◌, List, [], ◌∷◌, Bool, ◌&&◌, eqb, ltb, leb, Option, Some, None, Result, Ok, Err}
use Rattle.definitions.specs.Basic.{pick, among}
use Rattle.hex_text.specs.declared.HexError.{HexError}

-- space, tab, newline, carriage return
unfoldable pub is_blank : ℕ → Bool
is_blank x = among x (32 ∷ 9 ∷ 10 ∷ 13 ∷ [])

-- what a digit counts
unfoldable pub digit_of : ℕ → Option ℕ
digit_of x =
    pick (leb 48 x && ltb x 58) (Some (x - 48))
    (pick (leb 65 x && ltb x 71) (Some (x - 55)) (pick (leb 97 x && ltb x 103) (Some (x - 87)) None))

-- the octets of a text, and how it ends: well, or with the position of the first octet of text that is wrong
pub record Hex : Type 0 where
  pub octets : List ℕ
  pub ends : Result (Unit {0}) HexError

abbrev pub ended : Result (Unit {0}) HexError → Hex
ended e = record { octets = []; ends = e }

abbrev pub well : Hex
well = ended (Ok tt)

abbrev pub wrong : HexError → Hex
wrong e = ended (Err e)

abbrev pub behind : ℕ → Hex → Hex
behind x h = record { octets = x ∷ h.octets; ends = h.ends }

-- two digits are an octet, with the rest behind it; a digit in front of a blank is odd
unfoldable pub pair_of : ℕ → ℕ → ℕ → Hex → Hex
pair_of at x y rest =
    elim (digit_of x) [
      | None ↦ wrong (HexError.NoDigit at)
      | Some a ↦ pick (is_blank y) (wrong (HexError.Odd at)) (elim (digit_of y) [
        | None ↦ wrong (HexError.NoDigit (suc at))
        | Some b ↦ behind (16 * a + b) rest
      ])
    ]

-- a digit at the end is odd
unfoldable pub last_of : ℕ → ℕ → Hex
last_of at x = elim (digit_of x) [ None ↦ wrong (HexError.NoDigit at) | Some a ↦ wrong (HexError.Odd at) ]

-- from a position on, at most so many octets: what stands behind those is not looked at
unfoldable pub hex_from : ℕ → ℕ → List ℕ → Hex
hex_from room at [] = well
hex_from room at (x ∷ []) = pick (eqb room 0) well (pick (is_blank x) well (last_of at x))
hex_from room at (x ∷ y ∷ s) =
    pick (eqb room 0) well (pick (is_blank x) (hex_from room (suc at) (y ∷ s)) (pair_of at x y (hex_from (room - 1) (suc (suc at)) s)))

abbrev pub hex_of : ℕ → List ℕ → Hex
hex_of room text = hex_from room 0 text
