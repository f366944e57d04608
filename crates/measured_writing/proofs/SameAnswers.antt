-- Equal numbers and values come from equal answers: from document 01's answer of a writing the answer in code is found again.
-- By cases.
use Prim.Native.Nat.{ℕ, zero, suc}
use mathlib.Core.Path.{◌≡◌, refl, ap, sym, ◌∙◌}
use mathlib.Core.List.{List}
use lib.ListN.{get_or}
use Rattle.std.specs.Prelude.{Ok, Err}
use Rattle.definitions.specs.Basic.{Answer}
use Rattle.measured_writing.specs.Encodes.{Encoded, encoded_as}
use Rattle.measured_writing.specs.declared.encode.Which.{Which}
use Rattle.measured_writing.specs.declared.encode.EncodeError.{EncodeError}

which-back : ℕ → Which
which-back zero = Which.Order
which-back (suc zero) = Which.Order
which-back (suc (suc zero)) = Which.Kept
which-back (suc (suc (suc n))) = Which.Rows

-- the numbers from 10 on
late-back : ℕ → List ℕ → Encoded
late-back zero vs = Err (EncodeError.Unfit (get_or vs 0 0))
late-back (suc zero) vs = Err (EncodeError.Malformed (which-back (get_or vs 0 0)))
late-back (suc (suc n)) vs = Err (EncodeError.NoOutput (get_or vs 0 0))

encoded-back : ℕ → List ℕ → Encoded
encoded-back zero vs = Ok (get_or vs 0 0)
encoded-back (suc zero) vs = Err EncodeError.NoRows
encoded-back (suc (suc zero)) vs = Err EncodeError.NoRows
encoded-back (suc (suc (suc zero))) vs = Err EncodeError.TooLong
encoded-back (suc (suc (suc (suc zero)))) vs = Err (EncodeError.BadTable (get_or vs 0 0))
encoded-back (suc (suc (suc (suc (suc zero))))) vs = Err EncodeError.NoTable
encoded-back (suc (suc (suc (suc (suc (suc zero)))))) vs = Err EncodeError.NoTable
encoded-back (suc (suc (suc (suc (suc (suc (suc zero))))))) vs = Err EncodeError.NoTable
encoded-back (suc (suc (suc (suc (suc (suc (suc (suc zero)))))))) vs = Err EncodeError.NoTable
encoded-back (suc (suc (suc (suc (suc (suc (suc (suc (suc zero))))))))) vs = Err EncodeError.NoTable
encoded-back (suc (suc (suc (suc (suc (suc (suc (suc (suc (suc n)))))))))) vs = late-back n vs

encoded-found : (e : Encoded) → encoded-back (encoded_as e).number (encoded_as e).values ≡ e
unfolding encoded-back late-back which-back
encoded-found (Ok n) = refl
encoded-found (Err EncodeError.NoRows) = refl
encoded-found (Err EncodeError.TooLong) = refl
encoded-found (Err (EncodeError.BadTable row)) = refl
encoded-found (Err EncodeError.NoTable) = refl
encoded-found (Err (EncodeError.Unfit place)) = refl
encoded-found (Err (EncodeError.Malformed Which.Order)) = refl
encoded-found (Err (EncodeError.Malformed Which.Kept)) = refl
encoded-found (Err (EncodeError.Malformed Which.Rows)) = refl
encoded-found (Err (EncodeError.NoOutput need)) = refl

pub same-encoded : (a b : Encoded) → encoded_as a ≡ encoded_as b → a ≡ b
same-encoded a b e = sym (encoded-found a) ∙ ap (λ (x : Answer). encoded-back x.number x.values) e ∙ encoded-found b
