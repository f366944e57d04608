-- Equal numbers and values come from equal answers: each map from an answer of this crate to document 01's answers tells two
-- answers apart. By cases; two constructors are never equal.
use mathlib.Core.Path.{◌≡◌, refl, ap}
use Rattle.std.specs.Prelude.{Option, Some, None, Result, Ok, Err}
use Prim.Native.Nat.{ℕ}
use Rattle.definitions.specs.Basic.{Answer}
use Rattle.kept.specs.Kept.{pushed_as, counted_as, got_as}
use Rattle.kept.specs.declared.Span.{Span}
use Rattle.kept.specs.declared.LogError.{LogError}
use Rattle.kept.specs.declared.PushError.{PushError}

-- equal answers have equal numbers, and equal values
pub number_of : {a b : Answer} → a ≡ b → a.number ≡ b.number
number_of e = ap (λ (x : Answer). x.number) e

pub values_of : {a b : Answer} → a ≡ b → a.values ≡ b.values
values_of e = ap (λ (x : Answer). x.values) e

pub same-pushed : (which room : ℕ) (a b : Result ℕ PushError) → pushed_as which room a ≡ pushed_as which room b → a ≡ b
same-pushed which room (Ok n) (Ok n') e = let v = values_of e in cc
same-pushed which room (Ok n) (Err PushError.TooLong) e = let v = number_of e in cc
same-pushed which room (Ok n) (Err PushError.Malformed) e = let v = number_of e in cc
same-pushed which room (Ok n) (Err PushError.NoRoom) e = let v = number_of e in cc
same-pushed which room (Err PushError.TooLong) (Ok n') e = let v = number_of e in cc
same-pushed which room (Err PushError.TooLong) (Err PushError.TooLong) e = refl
same-pushed which room (Err PushError.TooLong) (Err PushError.Malformed) e = let v = number_of e in cc
same-pushed which room (Err PushError.TooLong) (Err PushError.NoRoom) e = let v = number_of e in cc
same-pushed which room (Err PushError.Malformed) (Ok n') e = let v = number_of e in cc
same-pushed which room (Err PushError.Malformed) (Err PushError.TooLong) e = let v = number_of e in cc
same-pushed which room (Err PushError.Malformed) (Err PushError.Malformed) e = refl
same-pushed which room (Err PushError.Malformed) (Err PushError.NoRoom) e = let v = number_of e in cc
same-pushed which room (Err PushError.NoRoom) (Ok n') e = let v = number_of e in cc
same-pushed which room (Err PushError.NoRoom) (Err PushError.TooLong) e = let v = number_of e in cc
same-pushed which room (Err PushError.NoRoom) (Err PushError.Malformed) e = let v = number_of e in cc
same-pushed which room (Err PushError.NoRoom) (Err PushError.NoRoom) e = refl

pub same-counted : (a b : Result ℕ LogError) → counted_as a ≡ counted_as b → a ≡ b
same-counted (Ok n) (Ok n') e = let v = values_of e in cc
same-counted (Ok n) (Err LogError.TooLong) e = let v = number_of e in cc
same-counted (Ok n) (Err LogError.Malformed) e = let v = number_of e in cc
same-counted (Err LogError.TooLong) (Ok n') e = let v = number_of e in cc
same-counted (Err LogError.TooLong) (Err LogError.TooLong) e = refl
same-counted (Err LogError.TooLong) (Err LogError.Malformed) e = let v = number_of e in cc
same-counted (Err LogError.Malformed) (Ok n') e = let v = number_of e in cc
same-counted (Err LogError.Malformed) (Err LogError.TooLong) e = let v = number_of e in cc
same-counted (Err LogError.Malformed) (Err LogError.Malformed) e = refl

pub same-got : (a b : Result (Option Span) LogError) → got_as a ≡ got_as b → a ≡ b
same-got (Ok (Some s)) (Ok (Some s')) e = let v = values_of e in let p : s.start ≡ s'.start = cc in let q : s.len ≡ s'.len = cc in rw (p, q)
same-got (Ok (Some s)) (Ok None) e = let v = values_of e in cc
same-got (Ok (Some s)) (Err LogError.TooLong) e = let v = number_of e in cc
same-got (Ok (Some s)) (Err LogError.Malformed) e = let v = number_of e in cc
same-got (Ok None) (Ok (Some s')) e = let v = values_of e in cc
same-got (Ok None) (Ok None) e = refl
same-got (Ok None) (Err LogError.TooLong) e = let v = number_of e in cc
same-got (Ok None) (Err LogError.Malformed) e = let v = number_of e in cc
same-got (Err LogError.TooLong) (Ok (Some s')) e = let v = number_of e in cc
same-got (Err LogError.TooLong) (Ok None) e = let v = number_of e in cc
same-got (Err LogError.TooLong) (Err LogError.TooLong) e = refl
same-got (Err LogError.TooLong) (Err LogError.Malformed) e = let v = number_of e in cc
same-got (Err LogError.Malformed) (Ok (Some s')) e = let v = number_of e in cc
same-got (Err LogError.Malformed) (Ok None) e = let v = number_of e in cc
same-got (Err LogError.Malformed) (Err LogError.TooLong) e = let v = number_of e in cc
same-got (Err LogError.Malformed) (Err LogError.Malformed) e = refl
