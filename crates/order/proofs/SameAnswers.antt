-- Equal numbers and values come from equal answers: two entries of the order log are told apart by their octets.
-- By cases; two constructors are never equal.
use mathlib.Core.Path.{◌≡◌, refl, sym, ap}
use mathlib.Core.List.{[]}
use Prim.Native.Nat.{ℕ}
use native.Mathlib.Omega.{arith}
use Rattle.definitions.specs.Logs.{order_entry}
use Rattle.kept.proofs.SameAnswers.{number_of, values_of}
use Rattle.order.specs.Order.{placed_as, entry_as}
use Rattle.order.specs.declared.IgnoredIeReason.{IgnoredIeReason}
use Rattle.order.specs.declared.Placed.{Placed}
use Rattle.kept.specs.declared.LogError.{LogError}
use Rattle.std.specs.Prelude.{Option, Some, None, Result, Ok, Err}

pub same-placed : (p q : Placed) → order_entry (placed_as p) ≡ order_entry (placed_as q) → p ≡ q
unfolding order_entry
same-placed (Placed.Known i) (Placed.Known j) e = cc
same-placed (Placed.Known i) Placed.Unknown e = cc
same-placed (Placed.Known i) (Placed.Ignored IgnoredIeReason.Malformed) e = cc
same-placed (Placed.Known i) (Placed.Ignored IgnoredIeReason.Repeated) e = cc
same-placed (Placed.Known i) (Placed.Ignored IgnoredIeReason.OutOfSequence) e = cc
same-placed Placed.Unknown (Placed.Known j) e = cc
same-placed Placed.Unknown Placed.Unknown e = refl
same-placed Placed.Unknown (Placed.Ignored IgnoredIeReason.Malformed) e = cc
same-placed Placed.Unknown (Placed.Ignored IgnoredIeReason.Repeated) e = cc
same-placed Placed.Unknown (Placed.Ignored IgnoredIeReason.OutOfSequence) e = cc
same-placed (Placed.Ignored IgnoredIeReason.Malformed) (Placed.Known j) e = cc
same-placed (Placed.Ignored IgnoredIeReason.Malformed) Placed.Unknown e = cc
same-placed (Placed.Ignored IgnoredIeReason.Malformed) (Placed.Ignored IgnoredIeReason.Malformed) e = refl
same-placed (Placed.Ignored IgnoredIeReason.Malformed) (Placed.Ignored IgnoredIeReason.Repeated) e = cc
same-placed (Placed.Ignored IgnoredIeReason.Malformed) (Placed.Ignored IgnoredIeReason.OutOfSequence) e = cc
same-placed (Placed.Ignored IgnoredIeReason.Repeated) (Placed.Known j) e = cc
same-placed (Placed.Ignored IgnoredIeReason.Repeated) Placed.Unknown e = cc
same-placed (Placed.Ignored IgnoredIeReason.Repeated) (Placed.Ignored IgnoredIeReason.Malformed) e = cc
same-placed (Placed.Ignored IgnoredIeReason.Repeated) (Placed.Ignored IgnoredIeReason.Repeated) e = refl
same-placed (Placed.Ignored IgnoredIeReason.Repeated) (Placed.Ignored IgnoredIeReason.OutOfSequence) e = cc
same-placed (Placed.Ignored IgnoredIeReason.OutOfSequence) (Placed.Known j) e = cc
same-placed (Placed.Ignored IgnoredIeReason.OutOfSequence) Placed.Unknown e = cc
same-placed (Placed.Ignored IgnoredIeReason.OutOfSequence) (Placed.Ignored IgnoredIeReason.Malformed) e = cc
same-placed (Placed.Ignored IgnoredIeReason.OutOfSequence) (Placed.Ignored IgnoredIeReason.Repeated) e = cc
same-placed (Placed.Ignored IgnoredIeReason.OutOfSequence) (Placed.Ignored IgnoredIeReason.OutOfSequence) e = refl

-- no entry has no octets
pub some-octets : (p : Placed) → order_entry (placed_as p) ≡ [] → ⊥
unfolding order_entry
some-octets (Placed.Known i) e = let z : ◌≡◌ {A = ℕ} 0 1 = cc in absurd (omega arith)
some-octets Placed.Unknown e = let z : ◌≡◌ {A = ℕ} 0 1 = cc in absurd (omega arith)
some-octets (Placed.Ignored IgnoredIeReason.Malformed) e = let z : ◌≡◌ {A = ℕ} 0 1 = cc in absurd (omega arith)
some-octets (Placed.Ignored IgnoredIeReason.Repeated) e = let z : ◌≡◌ {A = ℕ} 0 1 = cc in absurd (omega arith)
some-octets (Placed.Ignored IgnoredIeReason.OutOfSequence) e = let z : ◌≡◌ {A = ℕ} 0 1 = cc in absurd (omega arith)

pub same-entry : (a b : Result (Option Placed) LogError) → entry_as a ≡ entry_as b → a ≡ b
same-entry (Ok (Some p)) (Ok (Some q)) e = ap (λ (x : Placed). Ok (Some x)) (same-placed p q (values_of e))
same-entry (Ok (Some p)) (Ok None) e = absurd (some-octets p (values_of e))
same-entry (Ok (Some p)) (Err LogError.TooLong) e = let v = number_of e in cc
same-entry (Ok (Some p)) (Err LogError.Malformed) e = let v = number_of e in cc
same-entry (Ok None) (Ok (Some q)) e = absurd (some-octets q (values_of (sym e)))
same-entry (Ok None) (Ok None) e = refl
same-entry (Ok None) (Err LogError.TooLong) e = let v = number_of e in cc
same-entry (Ok None) (Err LogError.Malformed) e = let v = number_of e in cc
same-entry (Err LogError.TooLong) (Ok (Some q)) e = let v = number_of e in cc
same-entry (Err LogError.TooLong) (Ok None) e = let v = number_of e in cc
same-entry (Err LogError.TooLong) (Err LogError.TooLong) e = refl
same-entry (Err LogError.TooLong) (Err LogError.Malformed) e = let v = number_of e in cc
same-entry (Err LogError.Malformed) (Ok (Some q)) e = let v = number_of e in cc
same-entry (Err LogError.Malformed) (Ok None) e = let v = number_of e in cc
same-entry (Err LogError.Malformed) (Err LogError.TooLong) e = let v = number_of e in cc
same-entry (Err LogError.Malformed) (Err LogError.Malformed) e = refl
