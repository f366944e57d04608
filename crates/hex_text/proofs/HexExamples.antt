-- Examples of texts of hex digits, by computation.
use mathlib.Core.Path.{◌≡◌, refl}
use mathlib.Core.List.{[], ◌∷◌}
use Rattle.definitions.specs.Basic.{among}
use Rattle.hex_text.specs.declared.HexError.{HexError}
use Rattle.hex_text.specs.Hex.{is_blank, digit_of, well, wrong, behind, pair_of, last_of, hex_from, hex_of}

-- "c1 9A"; "c"; "c "; " g"; room for one octet, and what is behind it
pub both-cases : hex_of 4 (99 ∷ 49 ∷ 32 ∷ 57 ∷ 65 ∷ []) ≡ behind 193 (behind 154 well)
unfolding is_blank among digit_of pair_of last_of hex_from
both-cases = refl

pub odd-end : hex_of 4 (99 ∷ []) ≡ wrong (HexError.Odd 0)
unfolding is_blank among digit_of pair_of last_of hex_from
odd-end = refl

pub odd-blank : hex_of 4 (99 ∷ 32 ∷ []) ≡ wrong (HexError.Odd 0)
unfolding is_blank among digit_of pair_of last_of hex_from
odd-blank = refl

pub not-a-digit : hex_of 4 (32 ∷ 103 ∷ []) ≡ wrong (HexError.NoDigit 1)
unfolding is_blank among digit_of pair_of last_of hex_from
not-a-digit = refl

pub room-for-one : hex_of 1 (49 ∷ 48 ∷ 103 ∷ []) ≡ behind 16 well
unfolding is_blank among digit_of pair_of last_of hex_from
room-for-one = refl
