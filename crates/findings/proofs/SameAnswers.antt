-- Equal numbers and values come from equal answers: from document 01's answer the answer in code is found again.
-- By cases.
use Prim.Native.Nat.{ℕ, zero, suc}
use mathlib.Core.Path.{◌≡◌, refl, ap, sym, ◌∙◌}
use mathlib.Core.List.{List}
use lib.ListN.{get_or}
use lib.Dec.{eqb}
use Rattle.definitions.specs.Basic.{pick, Answer}
use Rattle.findings.specs.Findings.{found_as}
use Rattle.std.specs.Prelude.{Result, Ok, Err}
use Rattle.logs.specs.declared.MalformedLog.{MalformedLog}
use Rattle.findings.specs.declared.FindError.{FindError}

found_back : ℕ → List ℕ → Result ℕ FindError
found_back zero vs = Ok (get_or vs 0 0)
found_back (suc zero) vs = Err FindError.NoRoom
found_back (suc (suc zero)) vs = Err FindError.NoRoom
found_back (suc (suc (suc zero))) vs = Err FindError.TooLong
found_back (suc (suc (suc (suc zero)))) vs = Err (FindError.BadTable (get_or vs 0 0))
found_back (suc (suc (suc (suc (suc n))))) vs = Err (FindError.Malformed (pick (eqb (get_or vs 0 0) 1) MalformedLog.Order MalformedLog.Kept))

found-found : (f : Result ℕ FindError) → found_back (found_as f).number (found_as f).values ≡ f
unfolding found_back
found-found (Ok n) = refl
found-found (Err (FindError.BadTable k)) = refl
found-found (Err FindError.TooLong) = refl
found-found (Err (FindError.Malformed MalformedLog.Order)) = refl
found-found (Err (FindError.Malformed MalformedLog.Kept)) = refl
found-found (Err FindError.NoRoom) = refl

pub same-found : (a b : Result ℕ FindError) → found_as a ≡ found_as b → a ≡ b
same-found a b e = sym (found-found a) ∙ ap (λ (x : Answer). found_back x.number x.values) e ∙ found-found b
