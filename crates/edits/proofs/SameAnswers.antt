-- Equal numbers and values come from equal answers: from document 01's answer of an edit the answer in code is found again.
-- By cases.
use Prim.Native.Nat.{ℕ, zero, suc}
use mathlib.Core.Path.{◌≡◌, refl, ap, sym, ◌∙◌}
use mathlib.Core.List.{List, [], ◌∷◌}
use lib.ListN.{get_or}
use lib.Dec.{eqb}
use Rattle.definitions.specs.Basic.{pick, Answer}
use Rattle.std.specs.Prelude.{Some, None, Ok, Err}
use Rattle.edits.specs.Edits.{Edited, edited_as}
use Rattle.edits.specs.declared.EditError.{EditError}

done-back : List ℕ → Edited
done-back [] = Ok None
done-back (x ∷ vs) = Ok (Some x)

edited-back : ℕ → List ℕ → Edited
edited-back zero vs = done-back vs
edited-back (suc zero) vs = Ok None
edited-back (suc (suc zero)) vs = Err EditError.NoRoom
edited-back (suc (suc (suc zero))) vs = Err EditError.TooLong
edited-back (suc (suc (suc (suc zero)))) vs = Err (EditError.BadTable (get_or vs 0 0))
edited-back (suc (suc (suc (suc (suc n))))) vs = pick (eqb n 5) (Err (EditError.Unfit (get_or vs 0 0))) (pick (eqb n 6) (pick (eqb (get_or vs 0 0) 1) (Err EditError.MalformedLog) (Err EditError.Malformed)) (Err (EditError.NoSet (get_or vs 0 0))))

edited-found : (e : Edited) → edited-back (edited_as e).number (edited_as e).values ≡ e
unfolding edited-back done-back
edited-found (Ok (Some n)) = refl
edited-found (Ok None) = refl
edited-found (Err (EditError.BadTable k)) = refl
edited-found (Err EditError.TooLong) = refl
edited-found (Err EditError.NoRoom) = refl
edited-found (Err EditError.MalformedLog) = refl
edited-found (Err EditError.Malformed) = refl
edited-found (Err (EditError.Unfit k)) = refl
edited-found (Err (EditError.NoSet n)) = refl

pub same-edited : (a b : Edited) → edited_as a ≡ edited_as b → a ≡ b
same-edited a b e = sym (edited-found a) ∙ ap (λ (x : Answer). edited-back x.number x.values) e ∙ edited-found b
