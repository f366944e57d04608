-- How long an element is, from the octets from its first octet on (TS 24.007, 11.2.4; "Reading the optional part").
use Rattle.std.specs.Prelude.{ℕ, ◌+◌, ◌-◌, List, [], ◌∷◌, Bool, ◌||◌, length, leb, eqb}
use Rattle.std.proofs.Math.Option.{Option, none, some, map, get_or}
use Rattle.definitions.specs.Basic.{pick}
use Rattle.definitions.specs.Octets.{number_at}
use Rattle.definitions.specs.Rows.{Form, half, fixed, tlv, tlv-e}

-- the octets before the value: the IEI and the length field; a half octet shares its octet with the IEI
unfoldable pub header : Form → ℕ
header half = 0
header (fixed n) = 1
header tlv = 2
header tlv-e = 3

-- the whole length that a length field of w octets behind the IEI states; none where the field is cut
unfoldable pub length_by : ℕ → List ℕ → Option ℕ
length_by w s = map (λ n. 1 + w + n) (number_at w 1 s)

-- the whole length that an element of a form states
unfoldable pub stated : Form → List ℕ → Option ℕ
stated half s = some 1
stated (fixed n) s = some (1 + n)
stated tlv s = length_by 1 s
stated tlv-e s = length_by 2 s

-- a stated length that the octets have; none where the element is cut short
unfoldable pub within : List ℕ → Option ℕ → Option ℕ
within s none = none
within s (some n) = pick (leb n (length s)) (some n) none

unfoldable pub whole : Form → List ℕ → Option ℕ
whole f s = within s (stated f s)

-- the form by which an element without a place is measured: 0x80 up one octet; start number to 0x7f two length octets;
-- else one
unfoldable pub unknown_form : ℕ → ℕ → Form
unknown_form start x = pick (leb 128 x) half (pick (leb start x) tlv-e tlv)

-- `generic_ie_length`, the length of an unknown element; none where it is cut short, as no octet is
unfoldable pub unknown_length : ℕ → List ℕ → Option ℕ
unknown_length start [] = none
unknown_length start (x ∷ xs) = whole (unknown_form start x) (x ∷ xs)

-- the octets that an element of a form lacks: up to its stated length, or, where the length field is itself cut, up to the end of
-- that field, which is a least number
unfoldable pub lacking : Form → List ℕ → ℕ
lacking f s = get_or (stated f s) (header f) - length s

-- the octets missing of an unknown element that is cut short; 1 for no octet
unfoldable pub missing : ℕ → List ℕ → ℕ
missing start [] = 1
missing start (x ∷ xs) = lacking (unknown_form start x) (x ∷ xs)

-- an unknown element that asks to be understood: at most 0x0f, 0x7e or 0x7f (TS 24.007, 11.2.5)
unfoldable pub required : ℕ → Bool
required x = leb x 15 || (eqb x 126 || eqb x 127)
