-- Equal numbers and values come from equal answers: from document 01's answer the answer in code is found again.
-- By cases.
use Prim.Native.Nat.{ℕ, zero, suc}
use mathlib.Core.Path.{◌≡◌, refl, ap, sym, ◌∙◌}
use mathlib.Core.List.{List}
use lib.ListN.{get_or}
use lib.Dec.{eqb}
use Rattle.std.specs.Prelude.{Result, Ok, Err}
use Rattle.definitions.specs.Basic.{pick, Answer}
use Rattle.mandatory_writing.specs.Writes.{wrote_as}
use Rattle.mandatory_writing.specs.declared.encode.MandatoryWriteError.{MandatoryWriteError}

wrote-back : ℕ → List ℕ → Result ℕ MandatoryWriteError
wrote-back zero vs = Ok (get_or vs 0 0)
wrote-back (suc zero) vs = Err MandatoryWriteError.NoRoom
wrote-back (suc (suc zero)) vs = Err MandatoryWriteError.NoRoom
wrote-back (suc (suc (suc zero))) vs = Err MandatoryWriteError.TooLong
wrote-back (suc (suc (suc (suc zero)))) vs = Err (MandatoryWriteError.BadTable (get_or vs 0 0))
wrote-back (suc (suc (suc (suc (suc n))))) vs =
    pick (eqb n 0) (Err MandatoryWriteError.NoTable)
    (pick (eqb n 5) (Err (MandatoryWriteError.Unfit (get_or vs 0 0))) (pick (eqb n 6) (Err MandatoryWriteError.Malformed) (Err (MandatoryWriteError.OutputShort (get_or vs 0 0)))))

wrote_found : (r : Result ℕ MandatoryWriteError) → wrote-back (wrote_as r).number (wrote_as r).values ≡ r
unfolding wrote-back
wrote_found (Ok n) = refl
wrote_found (Err MandatoryWriteError.NoRoom) = refl
wrote_found (Err MandatoryWriteError.TooLong) = refl
wrote_found (Err (MandatoryWriteError.BadTable k)) = refl
wrote_found (Err MandatoryWriteError.NoTable) = refl
wrote_found (Err (MandatoryWriteError.Unfit k)) = refl
wrote_found (Err MandatoryWriteError.Malformed) = refl
wrote_found (Err (MandatoryWriteError.OutputShort n)) = refl

pub same-wrote : (a b : Result ℕ MandatoryWriteError) → wrote_as a ≡ wrote_as b → a ≡ b
same-wrote a b e = sym (wrote_found a) ∙ ap (λ (x : Answer). wrote-back x.number x.values) e ∙ wrote_found b
