-- A note more at the end of those that are used: what is behind it is still zero.
-- By the array's front and what is behind it.
use Prim.Native.Nat.{ℕ, suc, ◌+◌, ◌-◌, ◌≤◌, ◌<◌}
use native.Mathlib.Omega.{arith}
use native.Mathlib.Numerals.{add-one}
use mathlib.Core.Path.{◌≡◌, refl, ap, sym, ◌∙◌}
use mathlib.Core.List.{List, [], ◌∷◌, ◌++◌, append-nil}
use lib.ListN.{take, drop, replicate, length-set}
use lib.Seq.{take-suc-set, drop-set-lt, drop-drop}
use Rattle.mandatory.specs.Notes.{note, no_notes, flat, notes_as, with_note, with_fault, Tidy}
use Rattle.mandatory.specs.Reads.{note_of}
use Rattle.std.specs.Prelude.{Option, Some, None}
use Rattle.mandatory_ie.specs.declared.Fault.{Fault}
use Rattle.mandatory.specs.declared.notes.Note.{Note}
use Rattle.mandatory.specs.declared.notes.Notes.{Notes}

pub tidy-none : Tidy no_notes
tidy-none = record { size = refl; within = omega arith; rest = refl }

pub notes-none : notes_as no_notes ≡ []
unfolding notes_as flat
notes-none = refl

pub flat_append : (a b : List Note) → flat (a ++ b) ≡ flat a ++ flat b
unfolding flat
flat_append [] b = refl
flat_append (n ∷ a) b = ap (λ (s : List ℕ). n.row ∷ n.number ∷ s) (flat_append a b)

-- what a fault noted leaves
pub record Noted (n : Notes) (k : ℕ) (f : Option Fault) : Type 0 where
  pub tidy : Tidy (with_fault n k f)
  pub tells : notes_as (with_fault n k f) ≡ notes_as n ++ note_of k f
  pub count : (with_fault n k f).count ≤ n.count + 1

module _ (n : Notes) (t : Tidy n) (h : n.count < 32) where
  tidy-with : (k m : ℕ) → Tidy (with_note n k m)
  unfolding with_note
  tidy-with k m =
      let e : 32 - n.count ≡ suc (32 - (n.count + 1)) = omega arith in
      let d : drop 1 (replicate (32 - n.count) (note 0 0)) ≡ replicate (32 - (n.count + 1)) (note 0 0) = rw e in
      record {
        size = length-set n.notes n.count (note k m) ∙ t.size;
        within = omega arith;
        rest =
            drop-set-lt (n.count + 1) n.notes n.count (note k m) (omega arith)
            ∙ sym (drop-drop 1 n.count n.notes) ∙ ap (drop 1) t.rest ∙ d;
      }

  tells-with : (k m : ℕ) → notes_as (with_note n k m) ≡ notes_as n ++ (k ∷ m ∷ [])
  unfolding notes_as with_note flat
  tells-with k m =
      rw (add-one n.count, take-suc-set n.notes n.count (note k m) (omega (arith, t.size)))
      (flat_append (take n.count n.notes) (note k m ∷ []))

  pub noted : (k : ℕ) (f : Option Fault) → Noted n k f
  unfolding with_note
  noted k None = record { tidy = t; tells = sym (append-nil (notes_as n)); count = omega arith }
  noted k (Some Fault.TooShort) = record { tidy = tidy-with k 8; tells = tells-with k 8; count = omega arith }
  noted k (Some Fault.Syntax) = record { tidy = tidy-with k 9; tells = tells-with k 9; count = omega arith }
