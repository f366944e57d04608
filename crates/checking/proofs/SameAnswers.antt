-- Equal numbers and values come from equal answers: from the answer of the definition the answer in code is found again.
-- By cases.
use Prim.Native.Nat.{ℕ, zero, suc}
use mathlib.Core.Path.{◌≡◌, refl, ap, sym, ◌∙◌}
use mathlib.Core.List.{List}
use lib.ListN.{get_or}
use Rattle.std.specs.Prelude.{Result, Ok, Err}
use Rattle.definitions.specs.Basic.{Answer}
use Rattle.checking.specs.Checks.{part_check_as}
use Rattle.checking.specs.declared.PartError.{PartError}

back : ℕ → List ℕ → Result Unit PartError
back zero vs = Ok tt
back (suc zero) vs = Err (PartError.CutShort (record { start = get_or vs 0 0; first = get_or vs 1 0; left = get_or vs 2 0; missing = get_or vs 3 0 }))
back (suc (suc zero)) vs = Ok tt
back (suc (suc (suc zero))) vs = Err PartError.TooLong
back (suc (suc (suc (suc zero)))) vs = Err (PartError.BadTable (get_or vs 0 0))
back (suc (suc (suc (suc (suc zero))))) vs = Err PartError.NoTable
back (suc (suc (suc (suc (suc (suc n)))))) vs = Err (PartError.Offends (get_or vs 0 0))

found : (d : Result Unit PartError) → back (part_check_as d).number (part_check_as d).values ≡ d
unfolding back
found (Ok x) = refl
found (Err (PartError.Offends at)) = refl
found (Err (PartError.CutShort c)) = refl
found (Err PartError.TooLong) = refl
found (Err (PartError.BadTable row)) = refl
found (Err PartError.NoTable) = refl

pub same-part-check : (a b : Result Unit PartError) → part_check_as a ≡ part_check_as b → a ≡ b
same-part-check a b e = sym (found a) ∙ ap (λ (x : Answer). back x.number x.values) e ∙ found b
