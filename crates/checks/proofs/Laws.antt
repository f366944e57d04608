-- Equal values come from equal answers: the map from the answer of this crate to the definitions tells two answers apart.
-- By cases; two constructors are never equal. And what `check_and_index` leaves of a table that passes is its index.
use Rattle.std.specs.Prelude.{Result, Ok, Err}
use mathlib.Core.Path.{◌≡◌, refl, ap}
use mathlib.Core.List.{List}
use mathlib.Core.Option.{none}
use Prim.Native.Nat.{ℕ}
use Rattle.definitions.specs.Basic.{pick, is_none}
use Rattle.definitions.specs.Rows.{Row, first_bad, index}
use Rattle.checks.specs.Answers.{checked_as}
use Rattle.checks.specs.declared.BadRow.{BadRow}

pub same-checked : (a b : Result Unit BadRow) → checked_as a ≡ checked_as b → a ≡ b
same-checked (Ok x) (Ok y) e = refl
same-checked (Ok x) (Err k) e = cc
same-checked (Err j) (Ok x) e = cc
same-checked (Err j) (Err k) e = let q : j.0 ≡ k.0 = cc in ap (λ (n : ℕ). Err (record { 0 = n })) q

pub passed-index : (rs : List Row) (entry : List ℕ) {ix : List ℕ} → first_bad rs ≡ none → ix ≡ pick (is_none (first_bad rs)) (index rs) entry → ix ≡ index rs
unfolding is_none
passed-index rs entry p e = rw p at e
