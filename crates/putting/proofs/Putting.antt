-- An element that is put, or not, by the tests that decide it.
-- Each test decides by itself.
use Prim.Native.Nat.{ℕ, ◌≤◌, ◌<◌}
use native.Mathlib.Omega.{arith}
use mathlib.Core.Path.{◌≡◌, refl, ap, ◌∙◌}
use mathlib.Core.List.{List}
use mathlib.Core.Bool.{Bool, true, false, and-false}
use borrow.Author.Tests.{le-leb, lt-leb}
use lib.ListN.{length, take}
use lib.Seq.{take_all}
use Rattle.definitions.specs.Basic.{over}
use Rattle.definitions.specs.Rows.{Form}
use Rattle.definitions.specs.Values.{fits}
use Rattle.definitions.specs.Writing.{encoded}
use Rattle.std.specs.Prelude.{Option, Some, None, Result, Ok, Err, leb}
use Rattle.std.specs.Result.{OkIff, is_ok, result_ok}
use Rattle.std.proofs.lemmas.Result.{OkIff-at_ok, OkIff-at_err}
use Rattle.putting.specs.Puts.{addable, writable, puts, PutIf}

module _ {b : Bool} {piece before : List ℕ} where
  pub put-not : b ≡ false → PutIf b piece before None before
  put-not e = record { takes = rw e refl; octets = rw e refl }

  pub put-done : b ≡ true → {n : ℕ} {after : List ℕ} → n ≡ length piece → after ≡ over piece before → PutIf b piece before (Some n) after
  put-done e t o = record { takes = rw e (ap Some t); octets = rw e o }

-- ---- the tests

module _ (f : Form) (source iei : ℕ) (s out : List ℕ) where
  -- a value that does not fit, an IEI to which bits cannot be added, or no room
  pub not-fit : fits f source s ≡ false → puts f source iei s out ≡ false
  unfolding puts writable
  not-fit e = rw e

  pub not-addable : addable f iei ≡ false → puts f source iei s out ≡ false
  unfolding puts writable
  not-addable e = rw (e, and-false (fits f source s))

  pub no_room : length out < length (encoded f iei s) → puts f source iei s out ≡ false
  unfolding puts
  no_room h = rw (lt-leb (length (encoded f iei s)) (length out), and-false (writable f source iei s))

  -- all three
  pub all_there : fits f source s ≡ true → addable f iei ≡ true → length (encoded f iei s) ≤ length out → puts f source iei s out ≡ true
  unfolding puts writable
  all_there a e h = rw (a, e, le-leb (length (encoded f iei s)) (length out))

  -- the first two, and the rest is a question of room
  pub put-fitting : fits f source s ≡ true → addable f iei ≡ true → {r : Option ℕ} {after : List ℕ}
      → PutIf (leb (length (encoded f iei s)) (length out)) (encoded f iei s) out r after → PutIf (puts f source iei s out) (encoded f iei s) out r after
  unfolding puts writable
  put-fitting a e p = rw (a, e) p

-- what is put into a part that has room for it
pub whole : (v x : List ℕ) {ys : List ℕ} → length v ≤ length x → ys ≡ over (take (length x) v) x → ys ≡ over v x
whole v x h e = rw (take_all (length x) v h) at e

-- ---- a length that is converted to a shorter number, and one that is not

module _ {E : Type 0} {limit v : ℕ} where
  pub converted : (r : Result ℕ E) {n : ℕ} → OkIff r (v < limit) v → Some n ≡ result_ok r → (v < limit) × (n ≡ v)
  converted (Ok x) {n = n} o e = let q : (v < limit) × (x ≡ v) = OkIff-at_ok {E = E} (Ok x) (v < limit) v x o refl in let z : n ≡ x = cc in (q.0, z ∙ q.1)
  converted (Err d) o e = absurd cc

  pub not_converted : (r : Result ℕ E) → OkIff r (v < limit) v → false ≡ is_ok r → limit ≤ v
  not_converted (Ok x) o e = absurd cc
  not_converted (Err d) o e = let q : v < limit → ⊥ = OkIff-at_err {E = E} (Err d) (v < limit) v d o refl in omega arith
