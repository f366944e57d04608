-- Equal numbers and values come from equal answers: from document 01's answer, and that what is not used of the notes is zero, the
-- answer in code is found again. By cases on the answer, and note by note.
use Prim.Native.Nat.{ℕ, zero, suc, ◌-◌}
use native.Mathlib.Omega.{arith}
use mathlib.Core.Path.{◌≡◌, refl, ap, sym, ◌∙◌}
use mathlib.Core.List.{List, [], ◌∷◌, ◌++◌}
use lib.ListN.{length, get_or, take, drop, replicate, take-append-drop}
use lib.Seq.{length-take-le, drop-append_seam}
use Rattle.std.specs.Prelude.{Result, Ok, Err}
use Rattle.definitions.specs.Basic.{Answer}
use Rattle.mandatory.specs.Notes.{note, flat, notes_as, Tidy}
use Rattle.mandatory.specs.Reads.{number_of, values_of, read_as}
use Rattle.mandatory.specs.declared.notes.Note.{Note}
use Rattle.mandatory.specs.declared.notes.Notes.{Notes}
use Rattle.mandatory.specs.declared.decode.MandatoryError.{MandatoryError}
use Rattle.mandatory.specs.declared.decode.MandatoryRead.{MandatoryRead}

-- ---- the notes

unflat : List ℕ → List Note
unflat [] = []
unflat (k ∷ []) = []
unflat (k ∷ m ∷ s) = note k m ∷ unflat s

flat_back : (ns : List Note) → unflat (flat ns) ≡ ns
unfolding unflat flat
flat_back [] = refl
flat_back (n ∷ ns) = ap (λ (t : List Note). n ∷ t) (flat_back ns)

notes-of : List Note → Notes
notes-of ns = record { count = length ns; notes = ns ++ replicate (32 - length ns) (note 0 0) }

notes-back : (n : Notes) → Tidy n → notes-of (unflat (notes_as n)) ≡ n
unfolding notes_as notes-of
notes-back n t =
    let u : unflat (flat (take n.count n.notes)) ≡ take n.count n.notes = flat_back (take n.count n.notes) in
    let l : length (take n.count n.notes) ≡ n.count = length-take-le n.count n.notes (omega (arith, t.size, t.within)) in
    rw (u, l, ← t.rest, take-append-drop)

-- ---- the answer

-- the answer, and the numbers of its notes, by document 01's number and values
mandated-back : ℕ → List ℕ → Result ℕ MandatoryError
mandated-back zero vs = Ok (get_or vs 0 0)
mandated-back (suc zero) vs = Err MandatoryError.NoRoom
mandated-back (suc (suc zero)) vs = Err MandatoryError.NoRoom
mandated-back (suc (suc (suc zero))) vs = Err MandatoryError.TooLong
mandated-back (suc (suc (suc (suc zero)))) vs = Err (MandatoryError.BadTable (get_or vs 0 0))
mandated-back (suc (suc (suc (suc (suc zero))))) vs = Err MandatoryError.NoTable
mandated-back (suc (suc (suc (suc (suc (suc zero)))))) vs = Err (MandatoryError.Missing (get_or vs 0 0))
mandated-back (suc (suc (suc (suc (suc (suc (suc zero))))))) vs = Err (MandatoryError.Truncated (get_or vs 0 0))
mandated-back (suc (suc (suc (suc (suc (suc (suc (suc zero)))))))) vs = Err (MandatoryError.TooShort (get_or vs 0 0))
mandated-back (suc (suc (suc (suc (suc (suc (suc (suc (suc n))))))))) vs = Err (MandatoryError.Syntax (get_or vs 0 0))

mandated-found : (m : Result ℕ MandatoryError) (s : List ℕ) → mandated-back (number_of m) (values_of m ++ s) ≡ m
unfolding mandated-back
mandated-found (Ok n) s = refl
mandated-found (Err MandatoryError.NoRoom) s = refl
mandated-found (Err MandatoryError.TooLong) s = refl
mandated-found (Err (MandatoryError.BadTable k)) s = refl
mandated-found (Err MandatoryError.NoTable) s = refl
mandated-found (Err (MandatoryError.Missing k)) s = refl
mandated-found (Err (MandatoryError.Truncated k)) s = refl
mandated-found (Err (MandatoryError.TooShort k)) s = refl
mandated-found (Err (MandatoryError.Syntax k)) s = refl

rest-found : (m : Result ℕ MandatoryError) (s : List ℕ) → drop (length (values_of m)) (values_of m ++ s) ≡ s
rest-found m s = drop-append_seam (values_of m) s

read_back : Answer → MandatoryRead
read_back a =
    let m : Result ℕ MandatoryError = mandated-back a.number a.values in
    record { answer = m; notes = notes-of (unflat (drop (length (values_of m)) a.values)) }

read_found : (r : MandatoryRead) → Tidy r.notes → read_back (read_as r) ≡ r
unfolding read_back read_as
read_found r t =
    rw (mandated-found r.answer (notes_as r.notes), rest-found r.answer (notes_as r.notes), notes-back r.notes t)

pub same_read : (a b : MandatoryRead) → read_as a ≡ read_as b → Tidy a.notes → Tidy b.notes → a ≡ b
same_read a b e s t = sym (read_found a s) ∙ ap read_back e ∙ read_found b t
