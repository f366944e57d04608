-- Laws of an element's length, once over the width of the length field, and of the unknown rule by the first octet.
-- A field is there or short as its octets are; the whole length is then a comparison.
use Prim.Native.Nat.{ℕ, ◌+◌, ◌-◌, ◌≤◌, ◌<◌}
use native.Mathlib.Omega.{arith}
use mathlib.Core.Path.{◌≡◌, refl}
use mathlib.Core.List.{List, [], ◌∷◌}
use mathlib.Core.Option
use mathlib.Core.Option.{none, some}
use mathlib.Core.Bool.{Bool, true, false, ◌||◌}
use borrow.Author.Tests.{le-leb, lt-leb, eq-eqb, ne_eqb, eqb-false}
use lib.ListN.{length, get_or}
use lib.Dec.{leb, eqb}
use Rattle.definitions.specs.Basic.{pick}
use Rattle.definitions.specs.Octets.{number_at}
use Rattle.definitions.specs.Rows.{half, tlv, tlv-e}
use Rattle.definitions.specs.Length.{header, length_by, stated, within, whole, unknown_form, unknown_length, lacking, missing, required}

-- a stated length that the octets have, or not
module _ (n : ℕ) (s : List ℕ) where
  pub within-there : n ≤ length s → within s (some n) ≡ some n
  unfolding within
  within-there h = rw (le-leb n (length s) h)

  pub within-short : length s < n → within s (some n) ≡ none
  unfolding within
  within-short h = rw (lt-leb n (length s) h)

-- what an element lacks, by the width of its length field; the two forms that have one
abbrev pub lacking_by : ℕ → List ℕ → ℕ
lacking_by w s = Option.get_or (length_by w s) (1 + w) - length s

pub lacking-widths : (s : List ℕ) → (lacking tlv s ≡ lacking_by 1 s) × (lacking tlv-e s ≡ lacking_by 2 s)
unfolding lacking stated header
lacking-widths s = (refl, refl)

-- the element length fact: by the number that a field of w octets holds
module _ (w n : ℕ) (s : List ℕ) (e : number_at w 1 s ≡ some n) where
  pub length-there : 1 + w + n ≤ length s → within s (length_by w s) ≡ some (1 + w + n)
  unfolding length_by
  length-there h = rw e (within-there (1 + w + n) s h)

  pub length-short : length s < 1 + w + n → within s (length_by w s) ≡ none
  unfolding length_by
  length-short h = rw e (within-short (1 + w + n) s h)

  -- what is missing; with what is there it adds up to the stated length
  pub lacking-value : lacking_by w s ≡ 1 + w + n - length s
  unfolding length_by
  lacking-value = rw e

  pub there-and-missing : length s ≤ 1 + w + n → length s + lacking_by w s ≡ 1 + w + n
  there-and-missing h = omega (arith, lacking-value)

-- where the field itself is cut
module _ (w : ℕ) (s : List ℕ) (e : number_at w 1 s ≡ none) where
  pub field-short : within s (length_by w s) ≡ none
  unfolding length_by within
  field-short = rw e

  pub lacking-field : lacking_by w s ≡ 1 + w - length s
  unfolding length_by
  lacking-field = rw e

-- the unknown rule by the first octet
pub unknown-none : (start : ℕ) (s : List ℕ) → length s ≡ 0 → unknown_length start s ≡ none
unfolding unknown_length
unknown-none start [] h = refl
unknown-none start (x ∷ xs) h = absurd (omega arith)

pub unknown-one : (start : ℕ) (s : List ℕ) → 0 < length s → 128 ≤ get_or s 0 0 → unknown_length start s ≡ some 1
unfolding unknown_length unknown_form whole stated
unknown-one start [] h g = absurd (omega arith)
unknown-one start (x ∷ xs) h g = rw (le-leb 128 x g) (within-there 1 (x ∷ xs) (omega arith))

pub unknown-below : (start : ℕ) (s : List ℕ) → 0 < length s → get_or s 0 0 < 128
    → unknown_length start s ≡ pick (leb start (get_or s 0 0)) (whole tlv-e s) (whole tlv s)
unfolding unknown_length unknown_form
unknown-below start [] h g = absurd (omega arith)
unknown-below start (x ∷ xs) h g = rw (lt-leb 128 x g) (by (leb start x))
  where
    by : (b : Bool) → whole (pick b tlv-e tlv) (x ∷ xs) ≡ pick b (whole tlv-e (x ∷ xs)) (whole tlv (x ∷ xs))
    by true = refl
    by false = refl

-- what is missing by the first octet
pub missing-none : (start : ℕ) (s : List ℕ) → length s ≡ 0 → missing start s ≡ 1
unfolding missing
missing-none start [] h = refl
missing-none start (x ∷ xs) h = absurd (omega arith)

pub missing-by : (start : ℕ) (s : List ℕ) → 0 < length s → missing start s ≡ lacking (unknown_form start (get_or s 0 0)) s
unfolding missing
missing-by start [] h = absurd (omega arith)
missing-by start (x ∷ xs) h = refl

pub lacking-one : (s : List ℕ) → 0 < length s → lacking half s ≡ 0
unfolding lacking stated
lacking-one s h = omega arith

-- which first octets ask to be understood
pub required-low : (x : ℕ) → x ≤ 15 → required x ≡ true
unfolding required
required-low x h = rw (le-leb x 15 h)

pub required-high : (x : ℕ) → 126 ≤ x → x ≤ 127 → required x ≡ true
unfolding required
required-high x h g = rw (lt-leb x 15 (omega arith)) (by (eqb x 126) refl)
  where
    by : (b : Bool) → eqb x 126 ≡ b → (b || eqb x 127) ≡ true
    by true e = refl
    by false e = eq-eqb x 127 (omega (arith, eqb-false x 126 e))

pub required-not : (x : ℕ) → 15 < x → x < 126 → required x ≡ false
unfolding required
required-not x h g = rw (lt-leb x 15 (omega arith), ne_eqb x 126 (omega arith), ne_eqb x 127 (omega arith))

pub required-one : (x : ℕ) → 128 ≤ x → required x ≡ false
unfolding required
required-one x h = rw (lt-leb x 15 (omega arith), ne_eqb x 126 (omega arith), ne_eqb x 127 (omega arith))
