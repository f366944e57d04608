-- `generic_ie_length` is the unknown rule: its length, or what is missing where there is none.
-- By cases on what the rule gave.
use Prim.Native.Nat.{ℕ}
use mathlib.Core.Path.{◌≡◌}
use mathlib.Core.Option.{Option, none, some}
use Rattle.std.proofs.Common.{rules}
use Rattle.std.specs.Prelude.{Result, Ok, Err, MatchOption, IsErrAnd}
use Rattle.definitions.specs.Length.{unknown_length, missing}
use Rattle.length.specs.Answers.{length_of, unknown_of}
use Rattle.length.specs.declared.CutShort.{CutShort}
use Rattle.length.proofs.generic_ie_length.Goals as goal

-- a length, or how many octets are missing
with-missing : (m : ℕ) (o : Option ℕ) (r : Result ℕ CutShort) → MatchOption (length_of o) (IsErrAnd r (λ (e : CutShort). e ≡ record { missing = m })) (λ (n : ℕ). r ≡ Ok n) → r ≡ unknown_of m o
with-missing m none (Ok n) h = absurd h
with-missing m none (Err e) h = cc
with-missing m (some n) r h = h

pub returns : goal.returns
returns c =
    let a = c.args in
    let m = missing a.tlve_start a.octets.now in
    let r = c.ok_or_else.result in
    let h : MatchOption c.unknown_length.result (IsErrAnd r (λ (e : CutShort). e ≡ record { missing = m })) (λ (n : ℕ). r ≡ Ok n) = search rules in
    with-missing m (unknown_length a.tlve_start a.octets.now) r (rw c.unknown_length.ensures at h)
