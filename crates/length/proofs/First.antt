-- The first octet, by what `first` gives.
-- By cases on the octets.
use Prim.Native.Nat.{ℕ, ◌+◌, ◌-◌, ◌<◌}
use native.Mathlib.Omega.{arith}
use mathlib.Core.Path.{◌≡◌, refl}
use mathlib.Core.List.{List, [], ◌∷◌}
use mathlib.Core.Option.{Option, none, some}
use lib.ListN.{length, get_or}
use Rattle.std.specs.Prelude.{Some, None, slice_get, MatchOption}
use Rattle.definitions.specs.Octets.{number_at}
use Rattle.definitions.proofs.Length.{lacking_by, lacking-value, lacking-field}
use Rattle.octets.specs.Answers.{number_of}
use Rattle.octets.specs.declared.Cursor.{Cursor}

pub first-is : (s : List ℕ) (x : ℕ) → Some x ≡ slice_get s 0 → (0 < length s) × (get_or s 0 0 ≡ x)
first-is [] x e = cc
first-is (y ∷ ys) x e = (omega arith, cc)

pub first-none : (s : List ℕ) → None ≡ slice_get s 0 → length s ≡ 0
first-none [] e = refl
first-none (y ∷ ys) e = cc

-- what an element lacks, by the number read of its length field, 0 where the field is cut
pub lacking_read : (w : ℕ) (s : List ℕ) (v : ℕ) → MatchOption (number_of w 1 (number_at w 1 s)) (v ≡ 0) (λ (x : ℕ × Cursor). v ≡ x.0) → lacking_by w s ≡ 1 + w + v - length s
lacking_read w s v m = by (number_at w 1 s) refl m
  where
    by : (o : Option ℕ) → number_at w 1 s ≡ o → MatchOption (number_of w 1 o) (v ≡ 0) (λ (x : ℕ × Cursor). v ≡ x.0) → lacking_by w s ≡ 1 + w + v - length s
    by none e h = omega (arith, lacking-field w s e)
    by (some n) e h = omega (arith, lacking-value w n s e)
