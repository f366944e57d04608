-- Equal numbers and values come from equal answers: from document 01's answer of a value that is shown the answer in code is
-- found again. By cases.
use Prim.Native.Nat.{ℕ, zero, suc}
use mathlib.Core.Path.{◌≡◌, refl, ap, sym, ◌∙◌}
use mathlib.Core.List.{List, [], ◌∷◌}
use lib.ListN.{get_or}
use lib.Dec.{eqb}
use Rattle.std.specs.Prelude.{Option, Some, None, Result, Ok, Err}
use Rattle.definitions.specs.Basic.{pick, Answer}
use Rattle.values.specs.Shows.{shown_as}
use Rattle.values.specs.declared.show.Shown.{Shown}
use Rattle.values.specs.declared.show.ShowError.{ShowError}

-- what is shown of a place
abbrev pub Shows : Type 0
Shows = Result (Option Shown) ShowError

done-back : List ℕ → Shows
done-back [] = Ok None
done-back (x ∷ []) = Ok None
done-back (x ∷ y ∷ []) = Ok (Some (Shown.Half x y))
done-back (x ∷ y ∷ z ∷ vs) = Ok (Some (Shown.Value (record { source = x; start = y; len = z; iei = get_or vs 0 0 })))

shown-back : ℕ → List ℕ → Shows
shown-back zero vs = done-back vs
shown-back (suc zero) vs = Ok None
shown-back (suc (suc zero)) vs = Err ShowError.NoRoom
shown-back (suc (suc (suc zero))) vs = Err ShowError.TooLong
shown-back (suc (suc (suc (suc zero)))) vs = Err (ShowError.BadTable (get_or vs 0 0))
shown-back (suc (suc (suc (suc (suc n))))) vs = pick (eqb n 5) (Err (ShowError.Unfit (get_or vs 0 0))) (Err ShowError.Malformed)

shown-found : (s : Shows) → shown-back (shown_as s).number (shown_as s).values ≡ s
unfolding shown-back done-back
shown-found (Ok None) = refl
shown-found (Ok (Some (Shown.Half x iei))) = refl
shown-found (Ok (Some (Shown.Value r))) = refl
shown-found (Err (ShowError.BadTable k)) = refl
shown-found (Err ShowError.TooLong) = refl
shown-found (Err ShowError.NoRoom) = refl
shown-found (Err ShowError.Malformed) = refl
shown-found (Err (ShowError.Unfit k)) = refl

pub same-shown : (a b : Shows) → shown_as a ≡ shown_as b → a ≡ b
same-shown a b e = sym (shown-found a) ∙ ap (λ (x : Answer). shown-back x.number x.values) e ∙ shown-found b
