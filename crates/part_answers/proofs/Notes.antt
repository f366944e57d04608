-- Notes put one behind the other are those of the definition's answer, and their count is told in their place.
-- By induction on the notes; then by cases on the answer.
use Prim.Native.Nat.{ℕ, zero, suc, ◌+◌, ◌*◌, ◌≤◌}
use native.Mathlib.Omega.{arith}
use native.Mathlib.Numerals.{add-one}
use mathlib.Core.Path.{◌≡◌, refl, ap, sym, ◌∙◌}
use mathlib.Core.List.{List, [], ◌∷◌, ◌++◌}
use Rattle.std.specs.Prelude.{Result, Ok, Err}
use lib.ListN.{length, get_or, set, take, length-append}
use lib.Seq.{take-suc, length-take-le}
use Rattle.definitions.specs.Mandatory.{RowsRead}
use Rattle.mandatory.specs.Notes.{note, flat, notes_as, Tidy}
use Rattle.mandatory.specs.Reads.{number_of, read_as, Reads}
use Rattle.mandatory.specs.declared.notes.Note.{Note}
use Rattle.mandatory.specs.declared.notes.Notes.{Notes}
use Rattle.mandatory.specs.declared.decode.MandatoryError.{MandatoryError}
use Rattle.mandatory.specs.declared.decode.MandatoryRead.{MandatoryRead}
use Rattle.mandatory.proofs.Noting.{flat_append}
use Rattle.answers.specs.Says.{put_from, put}
use Rattle.part_answers.specs.Mandated.{notes_count, briefly, notes_in, MandatorySays, used_notes, first_notes, notes_put, brief_as, MandatedSays}
use Rattle.answers.proofs.Laws.{said-by}

-- ---- one note more

put-append : (k : ℕ) (a b s : List ℕ) → put_from k (a ++ b) s ≡ put_from (k + length a) b (put_from k a s)
put-append k [] b s = let e : k + 0 ≡ k = omega arith in rw e
put-append k (v ∷ a) b s =
    let e : k + length (v ∷ a) ≡ suc k + length a = omega arith in
    rw e (put-append (suc k) a b (set s k v))

length-first : (n : ℕ) (l : List Note) → length (first_notes n l) ≡ 2 * n
unfolding first_notes
length-first zero l = refl
length-first (suc n) l =
    let i = length-first n l in
    length-append (first_notes n l) ((get_or l n (note 0 0)).row ∷ (get_or l n (note 0 0)).number ∷ []) ∙ omega arith

pub note-put :
    (i : ℕ) (l : List Note) (s : List ℕ)
    → set (set (put (first_notes i l) s) (2 * i) (get_or l i (note 0 0)).row) (2 * i + 1) (get_or l i (note 0 0)).number ≡ put (first_notes (i + 1) l) s
unfolding first_notes
note-put i l s =
    let e : 0 + length (first_notes i l) ≡ 2 * i = omega (arith, length-first i l) in
    let p = put-append 0 (first_notes i l) ((get_or l i (note 0 0)).row ∷ (get_or l i (note 0 0)).number ∷ []) s in
    rw (add-one i, add-one (2 * i)) (sym (rw e at p))

pub none-put : (l : List Note) (s : List ℕ) → s ≡ put (first_notes 0 l) s
unfolding first_notes
none-put l s = refl

-- ---- how many

used_all : (n : ℕ) → n ≤ 32 → used_notes n ≡ n
used_all n h = omega arith

-- ---- the notes of the definition's answer

first_flat : (n : ℕ) (l : List Note) → n ≤ length l → first_notes n l ≡ flat (take n l)
unfolding first_notes flat
first_flat zero l h = refl
first_flat (suc n) l h =
    ap (λ (s : List ℕ). s ++ ((get_or l n (note 0 0)).row ∷ (get_or l n (note 0 0)).number ∷ [])) (first_flat n l (omega arith))
    ∙ sym (ap flat (take-suc l n (note 0 0) (omega arith)) ∙ flat_append (take n l) (get_or l n (note 0 0) ∷ []))

flat-counted : (ns : List Note) → notes_count (flat ns) ≡ length ns
unfolding notes_count flat
flat-counted [] = refl
flat-counted (n ∷ ns) = ap suc (flat-counted ns)

module _ (n : Notes) (t : Tidy n) where
  put-are : notes_put n ≡ notes_as n
  unfolding notes_as
  put-are = rw (used_all n.count t.within) (first_flat n.count n.notes (omega (arith, t.size, t.within)))

  counted : used_notes n.count ≡ notes_count (notes_as n)
  unfolding notes_as
  counted =
      used_all n.count t.within
      ∙ sym (flat-counted (take n.count n.notes) ∙ length-take-le n.count n.notes (omega (arith, t.size, t.within)))

  -- a refusal before the rows has no notes
  abbrev Bare : Result ℕ MandatoryError → Type 0
  Bare m = 1 ≤ number_of m → number_of m ≤ 5 → notes_as n ≡ []

  pub brief-by : (m : Result ℕ MandatoryError) → Bare m → brief_as m (used_notes n.count) ≡ briefly (read_as (record { answer = m; notes = n }))
  unfolding briefly read_as
  brief-by (Ok k) b = rw counted
  brief-by (Err MandatoryError.NoRoom) b = rw (b (omega arith) (omega arith))
  brief-by (Err MandatoryError.TooLong) b = rw (b (omega arith) (omega arith))
  brief-by (Err (MandatoryError.BadTable k)) b = rw (b (omega arith) (omega arith))
  brief-by (Err MandatoryError.NoTable) b = rw (b (omega arith) (omega arith))
  brief-by (Err (MandatoryError.Missing k)) b = rw counted
  brief-by (Err (MandatoryError.Truncated k)) b = rw counted
  brief-by (Err (MandatoryError.TooShort k)) b = rw counted
  brief-by (Err (MandatoryError.Syntax k)) b = rw counted

  pub notes-by : (m : Result ℕ MandatoryError) → Bare m → notes_put n ≡ notes_in (read_as (record { answer = m; notes = n }))
  unfolding notes_in read_as
  notes-by (Ok k) b = put-are
  notes-by (Err MandatoryError.NoRoom) b = put-are ∙ b (omega arith) (omega arith)
  notes-by (Err MandatoryError.TooLong) b = put-are ∙ b (omega arith) (omega arith)
  notes-by (Err (MandatoryError.BadTable k)) b = put-are ∙ b (omega arith) (omega arith)
  notes-by (Err MandatoryError.NoTable) b = put-are ∙ b (omega arith) (omega arith)
  notes-by (Err (MandatoryError.Missing k)) b = put-are
  notes-by (Err (MandatoryError.Truncated k)) b = put-are
  notes-by (Err (MandatoryError.TooShort k)) b = put-are
  notes-by (Err (MandatoryError.Syntax k)) b = put-are

-- ---- what is put is that of the definition

pub mandatory-by :
    {d : RowsRead} {r : MandatoryRead} {number : ℕ} {rows before after lent left : List ℕ}
    → Reads d r rows → MandatedSays r number before after lent left → MandatorySays d number before after lent left rows
mandatory-by {r = r} {lent = lent} e s =
    record {
      says = said-by (brief-by r.notes e.tidy r.answer e.bare ∙ ap briefly e.answers) s.says;
      notes-are =
          s.notes-are
          ∙ ap (λ (l : List ℕ). put l lent) (notes-by r.notes e.tidy r.answer e.bare ∙ ap notes_in e.answers);
      rows_are = e.rows_are;
    }
