-- What an octet of text does as it is decoded, by the digit that waits for its second.
use Rattle.std.specs.Prelude.{ℕ, ◌+◌, ◌*◌, ◌-◌, ◌<◌, ◌≤◌, Option, Some, None, Result, Ok, Err}
use Rattle.definitions.specs.Basic.{pick}
use Rattle.hex_text.specs.declared.HexError.{HexError}
use Rattle.hex_text.specs.declared.Step.{Step}
use Rattle.hex_text.specs.Hex.{is_blank, digit_of}

-- what waits then, an octet, or what is wrong
unfoldable pub first_of : ℕ → ℕ → Result Step HexError
first_of at x =
    pick (is_blank x) (Ok (Step.Waits None)) (elim (digit_of x) [
      | None ↦ Err (HexError.NoDigit at)
      | Some d ↦ Ok (Step.Waits (Some d))
    ])

unfoldable pub second_of : ℕ → ℕ → ℕ → Result Step HexError
second_of at half x =
    pick (is_blank x) (Err (HexError.Odd (at - 1))) (elim (digit_of x) [
      | None ↦ Err (HexError.NoDigit at)
      | Some d ↦ Ok (Step.Octet (16 * half + d))
    ])

abbrev pub step_of : ℕ → Option ℕ → ℕ → Result Step HexError
step_of at None x = first_of at x
step_of at (Some half) x = second_of at half x

abbrev pub end_of : ℕ → Option ℕ → Result (Unit {0}) HexError
end_of at None = Ok tt
end_of at (Some half) = Err (HexError.Odd (at - 1))

-- a digit that waits is one, and stands in front
abbrev pub Waiting : ℕ → Option ℕ → Type 0
Waiting at None = Unit {0}
Waiting at (Some half) = (1 ≤ at) × (half < 16)
