-- Each answer of this crate by the definition of what it answers.
use Rattle.std.specs.Prelude.{ℕ, List, leb, Option as Answered, Some, None, Result, Ok, Err}
use Rattle.std.proofs.Math.Option.{Option, none, some}
use Rattle.definitions.specs.Basic.{pick}
use Rattle.definitions.specs.Length.{required, whole}
use Rattle.definitions.specs.Rows.{tlv, tlv-e}
use Rattle.length.specs.declared.CutShort.{CutShort}
use Rattle.length.specs.declared.UnknownKind.{UnknownKind}

-- a length, or none where the element is cut short
abbrev pub length_of : Option ℕ → Answered ℕ
length_of none = None
length_of (some n) = Some n

-- the same of an unknown element: with the octets missing where it is cut short
abbrev pub unknown_of : ℕ → Option ℕ → Result ℕ CutShort
unknown_of m none = Err (record { missing = m })
unknown_of m (some n) = Ok n

-- what a first octet says of an unknown element: one octet alone; to be understood; any other
unfoldable pub kind_of : ℕ → UnknownKind
kind_of x = pick (leb 128 x) UnknownKind.OneOctet (pick (required x) UnknownKind.Required UnknownKind.Other)

-- an element below 0x80: from the start number on two length octets, below it one
unfoldable pub long_or_short : ℕ → ℕ → List ℕ → Answered ℕ
long_or_short x start s = length_of (pick (leb start x) (whole tlv-e s) (whole tlv s))
