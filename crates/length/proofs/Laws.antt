-- What the class of a first octet says of the octet, and an answered length of the definition.
-- By cases on the definition's tests; two constructors are never equal.
use Prim.Native.Nat.{ℕ, ◌≤◌, ◌<◌}
use mathlib.Core.Path.{◌≡◌, refl}
use mathlib.Core.Bool.{Bool, true, false}
use borrow.Author.Tests.{leb-true, leb-false}
use lib.Dec.{leb}
use mathlib.Core.Option.{Option, none, some}
use Rattle.std.specs.Prelude.{Some, None, Ok, Err}
use Rattle.definitions.specs.Basic.{pick}
use Rattle.definitions.specs.Length.{required}
use Rattle.length.specs.Answers.{kind_of, length_of, unknown_of}
use Rattle.length.specs.declared.CutShort.{CutShort}
use Rattle.length.specs.declared.UnknownKind.{UnknownKind}

pub kind-one : (x : ℕ) → UnknownKind.OneOctet ≡ kind_of x → 128 ≤ x
unfolding kind_of
kind-one x e = by (leb 128 x) (required x) refl e
  where
    by : (b r : Bool) → leb 128 x ≡ b → UnknownKind.OneOctet ≡ pick b UnknownKind.OneOctet (pick r UnknownKind.Required UnknownKind.Other) → 128 ≤ x
    by true r t k = leb-true 128 x t
    by false true t k = cc
    by false false t k = cc

pub kind-below : (x : ℕ) {k : UnknownKind} → k ≡ kind_of x → (k ≡ UnknownKind.OneOctet → ⊥) → x < 128
unfolding kind_of
kind-below x {k = k} e n = by (leb 128 x) refl e
  where
    by : (b : Bool) → leb 128 x ≡ b → k ≡ pick b UnknownKind.OneOctet (pick (required x) UnknownKind.Required UnknownKind.Other) → x < 128
    by true t f = absurd (n f)
    by false t f = leb-false 128 x t

-- what a length that was answered says of the definition
pub length-is : (o : Option ℕ) {n : ℕ} → Some n ≡ length_of o → o ≡ some n
length-is none e = cc
length-is (some m) e = cc

pub length_cut : (o : Option ℕ) → None ≡ length_of o → o ≡ none
length_cut none e = refl
length_cut (some m) e = cc

pub unknown-is : (m : ℕ) (o : Option ℕ) {n : ℕ} → Ok n ≡ unknown_of m o → o ≡ some n
unknown-is m none e = cc
unknown-is m (some k) e = cc

pub unknown-cut : (m : ℕ) (o : Option ℕ) {c : CutShort} → Err c ≡ unknown_of m o → (o ≡ none) × (c.missing ≡ m)
unknown-cut m none e = (refl, cc)
unknown-cut m (some k) e = cc

-- and what a class says of whether the element asks to be understood
pub kind-required : (x : ℕ) → UnknownKind.Required ≡ kind_of x → required x ≡ true
unfolding kind_of
kind-required x e = by (leb 128 x) (required x) refl e
  where
    by : (b r : Bool) → required x ≡ r → UnknownKind.Required ≡ pick b UnknownKind.OneOctet (pick r UnknownKind.Required UnknownKind.Other) → required x ≡ true
    by true r t k = cc
    by false true t k = t
    by false false t k = cc

pub kind-other : (x : ℕ) → UnknownKind.Other ≡ kind_of x → required x ≡ false
unfolding kind_of
kind-other x e = by (leb 128 x) (required x) refl e
  where
    by : (b r : Bool) → required x ≡ r → UnknownKind.Other ≡ pick b UnknownKind.OneOctet (pick r UnknownKind.Required UnknownKind.Other) → required x ≡ false
    by true r t k = cc
    by false true t k = cc
    by false false t k = t
