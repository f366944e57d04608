-- Equal numbers and values come from equal answers: from document 01's answer of a reading the answer in
-- code is found again. By cases.
use Prim.Native.Nat.{ℕ, zero, suc}
use mathlib.Core.Path.{◌≡◌, refl, ap, sym, ◌∙◌}
use mathlib.Core.List.{List}
use lib.ListN.{get_or}
use Rattle.definitions.specs.Basic.{Answer}
use Rattle.std.specs.Prelude.{Ok, Err}
use Rattle.filling.specs.Decodes.{Decoded, decoded_as}
use Rattle.filling.specs.declared.Room.{Room}
use Rattle.filling.specs.declared.DecodeError.{DecodeError}

room_back : ℕ → Room
room_back zero = Room.Rows
room_back (suc zero) = Room.Rows
room_back (suc (suc zero)) = Room.Kept
room_back (suc (suc (suc n))) = Room.Order

decoded-back : ℕ → List ℕ → Decoded
decoded-back zero vs = Ok (record { kept = get_or vs 0 0; order = get_or vs 1 0 })
decoded-back (suc zero) vs = Err (DecodeError.CutShort (record { start = get_or vs 0 0; first = get_or vs 1 0; left = get_or vs 2 0; missing = get_or vs 3 0 }))
decoded-back (suc (suc zero)) vs = Err (DecodeError.NoRoom (room_back (get_or vs 0 0)))
decoded-back (suc (suc (suc zero))) vs = Err DecodeError.TooLong
decoded-back (suc (suc (suc (suc zero)))) vs = Err (DecodeError.BadTable (get_or vs 0 0))
decoded-back (suc (suc (suc (suc (suc n))))) vs = Err DecodeError.NoTable

decoded-found : (d : Decoded) → decoded-back (decoded_as d).number (decoded_as d).values ≡ d
unfolding decoded-back room_back
decoded-found (Ok t) = refl
decoded-found (Err (DecodeError.CutShort c)) = refl
decoded-found (Err (DecodeError.NoRoom Room.Rows)) = refl
decoded-found (Err (DecodeError.NoRoom Room.Kept)) = refl
decoded-found (Err (DecodeError.NoRoom Room.Order)) = refl
decoded-found (Err DecodeError.TooLong) = refl
decoded-found (Err (DecodeError.BadTable row)) = refl
decoded-found (Err DecodeError.NoTable) = refl

pub same-decoded : (a b : Decoded) → decoded_as a ≡ decoded_as b → a ≡ b
same-decoded a b e = sym (decoded-found a) ∙ ap (λ (x : Answer). decoded-back x.number x.values) e ∙ decoded-found b
