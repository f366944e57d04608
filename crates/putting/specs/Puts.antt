-- One element put into the front of a buffer: where its value fits its form, its IEI and the four bits of a half octet make an octet,
-- and there is room for all of it. Else nothing is put.
use Rattle.std.specs.Prelude.{ℕ, ◌≡◌, List, Bool, true, ◌&&◌, length, leb, Option, Some, None}
use Rattle.definitions.specs.Basic.{pick, over}
use Rattle.definitions.specs.Rows.{Form, half, fixed, tlv, tlv-e}
use Rattle.definitions.specs.Values.{fits}
use Rattle.definitions.specs.Writing.{encoded}

-- an IEI to which any four bits of a half octet can be added
unfoldable pub addable : Form → ℕ → Bool
addable half iei = leb iei 240
addable (fixed n) iei = true
addable tlv iei = true
addable tlv-e iei = true

-- whether an element can be written: its value fits its form, and its IEI can have the bits added
unfoldable pub writable : Form → ℕ → ℕ → List ℕ → Bool
writable f source iei s = fits f source s && addable f iei

-- whether it is put
unfoldable pub puts : Form → ℕ → ℕ → List ℕ → List ℕ → Bool
puts f source iei s out = writable f source iei s && leb (length (encoded f iei s)) (length out)

-- a piece at the front, and how many octets it has, where it is put; else none, and the buffer as it was
pub record PutIf (b : Bool) (piece before : List ℕ) (r : Option ℕ) (after : List ℕ) : Type 0 where
  pub takes : r ≡ pick b (Some (length piece)) None
  pub octets : after ≡ pick b (over piece before) before
